pub mod Adding
pub mod Deriving
pub mod Forming
pub mod Growing
pub mod Justifying
pub mod Numbering
