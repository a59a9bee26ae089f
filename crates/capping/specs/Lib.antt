-- Read Caps.
pub mod Caps
