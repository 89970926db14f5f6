pub mod Chains
pub mod Letters
