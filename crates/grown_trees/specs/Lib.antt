pub mod Growths
pub mod Laws
pub mod Searches
pub mod Targets
