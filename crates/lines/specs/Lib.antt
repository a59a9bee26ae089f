-- Read Lines: what the listing program prints.
pub mod Lines
