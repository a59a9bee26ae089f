-- Read Finding.
pub mod Finding
