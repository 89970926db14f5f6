pub mod Levels
pub mod Proofs
pub mod Renaming
pub mod Searching
pub mod Tasks
pub mod Trials
