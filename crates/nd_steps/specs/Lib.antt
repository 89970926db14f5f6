pub mod Deductions
pub mod Laws
pub mod Premises
