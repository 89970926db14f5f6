pub mod Answers
pub mod Codes
pub mod Commands
pub mod Laws
pub mod Progress
pub mod Replays
pub mod Tables
pub mod Traces
