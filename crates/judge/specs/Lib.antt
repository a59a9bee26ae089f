-- What judging answers. Read Judging, then Answers; the meaning of tables is the crate instance's.
pub mod Judging
pub mod Refusals
pub mod Answers
