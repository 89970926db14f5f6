pub mod Accepted
pub mod Judged
pub mod Laws
pub mod Proofs
