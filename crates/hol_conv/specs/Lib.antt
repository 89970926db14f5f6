pub mod Conversion
pub mod Laws
pub mod LongForms
pub mod LongTests
pub mod NormalForms
pub mod Values
