pub mod Searches
pub mod Places
pub mod Edits
pub mod Types
pub mod Refusals
pub mod Rests
pub mod Firsts
pub mod Staying
