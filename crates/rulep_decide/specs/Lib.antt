pub mod Circuits
pub mod Fingerprints
pub mod Searches
pub mod Shapes
pub mod Trails
pub mod TruthValues
pub mod Verdicts
