-- Reading instance text. Read Grammar (what a statement says), Reading (what a text says), then Answers (the contract of reading).
-- Steps and Stored say what the reader's parts answer and store.
pub mod Grammar
pub mod Reading
pub mod Stored
pub mod Steps
pub mod Limits
pub mod Refusals
pub mod Answers
pub mod Outcomes
