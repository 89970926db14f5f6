pub mod Laws
pub mod Listed
pub mod Normals
pub mod Shapes
pub mod Tables
