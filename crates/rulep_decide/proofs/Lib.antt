pub mod Adding
pub mod Bringing
pub mod Deciding
pub mod Forcing
pub mod Indexing
pub mod Nodes
pub mod Searching
pub mod Tables
