-- An instance as text. Read Writing, then Answers.
pub mod Limits
pub mod Writing
pub mod Refusals
pub mod Answers
