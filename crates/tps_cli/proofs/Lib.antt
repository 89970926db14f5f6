pub mod Budgets
pub mod Deciding
pub mod Formulas
pub mod Generating
pub mod Showing
pub mod Writing
