pub mod Laws
pub mod CodeSince
pub mod Ruling
pub mod Promises
pub mod Clock
pub mod AtSmallest
pub mod RulingsAtSmallest
