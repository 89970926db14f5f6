pub mod Heads
pub mod Laws
pub mod LongTerms
pub mod Signatures
pub mod Spines
