pub mod Forms
pub mod Laws
pub mod Reading
pub mod Texts
pub mod Verifying
pub mod Views
