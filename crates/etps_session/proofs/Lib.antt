pub mod Done
pub mod Orders
pub mod Refused
pub mod Sound
pub mod Tabled
pub mod Traced
pub mod Typed
pub mod Undone
