pub mod Matings
pub mod Partners
pub mod Walks
pub mod Tautologies
