pub mod Chained
pub mod Figures
pub mod Leaves
pub mod Letters
pub mod Numerals
pub mod Spanned
pub mod Standings
