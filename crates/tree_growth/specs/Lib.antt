pub mod Extending
pub mod Growths
pub mod Kinds
pub mod Wrapped
