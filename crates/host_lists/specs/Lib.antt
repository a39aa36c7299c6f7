pub mod HostCalls
pub mod Promises
