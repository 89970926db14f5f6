pub mod Budgeting
pub mod Filling
pub mod Listing
pub mod Members
pub mod Signing
pub mod SpineLaws
pub mod Steps
pub mod TypeOrder
