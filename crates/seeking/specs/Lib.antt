-- Read Stocks, then Gathers, after the crate capping's Caps.
pub mod Stocks
pub mod Gathers
