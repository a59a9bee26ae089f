-- What tables mean. Read Limits, Terms, Rows, then Tables and Meaning, and Answers for the contract of the check; Layout goes from the
-- meaning to the tables. Tests, Structs and Parts are what the code's smaller functions promise.
pub mod Limits
pub mod Kinds
pub mod Lists
pub mod Terms
pub mod Rows
pub mod Tables
pub mod Meaning
pub mod Layout
pub mod Answers
pub mod Tests
pub mod Structs
pub mod Parts
