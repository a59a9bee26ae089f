-- Read Goals.
pub mod Goals
