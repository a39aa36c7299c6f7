pub mod CodeTries
