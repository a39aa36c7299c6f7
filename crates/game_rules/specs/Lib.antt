pub mod Limits
pub mod Rules
pub mod Good
pub mod Calls
pub mod CallOrder
pub mod Promises
