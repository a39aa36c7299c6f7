pub mod HostLegal
