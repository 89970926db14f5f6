pub mod BeyondLoose
pub mod Calls
pub mod Entries
pub mod Growing
pub mod Normalizing
