pub mod Cutting
pub mod Meanings
pub mod Naming
pub mod Replying
pub mod Stepping
pub mod Tallying
