pub mod LegalCalls
pub mod Promises
