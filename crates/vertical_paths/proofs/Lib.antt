pub mod Counts
pub mod Rows
pub mod Joined
pub mod Closing
pub mod Chains
pub mod Passing
pub mod Pairs
pub mod Spanning
