pub mod Dependencies
pub mod Faults
pub mod Graphs
pub mod Laws
pub mod Nesting
pub mod Stages
pub mod Uses
pub mod Walks
