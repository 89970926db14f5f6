pub mod Below
pub mod Bareness
pub mod Extended
pub mod Heads
pub mod Inverting
pub mod Lasting
pub mod NewBranches
pub mod Parts
