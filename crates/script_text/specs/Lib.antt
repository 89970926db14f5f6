pub mod Commands
pub mod Languages
pub mod Words
pub mod Grammar
pub mod Lines
pub mod Variables
pub mod Tails
