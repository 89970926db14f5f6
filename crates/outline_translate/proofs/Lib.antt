pub mod Translating
