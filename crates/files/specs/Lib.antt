-- Front files. Read Limits, Layout (a file's meaning, block by block), then Written and Taken (the contracts of writing and reading).
-- Structs and Put are what the code's smaller functions promise.
pub mod Limits
pub mod Layout
pub mod Structs
pub mod Put
pub mod Written
pub mod Taken
