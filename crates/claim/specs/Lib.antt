pub mod Emptying
pub mod Claim
pub mod CodeBack
