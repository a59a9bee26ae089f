-- The worked instances. For readers: CaseLaws, whose `all-cases` covers the table.
-- TestLaws: a test of a case that computes. TableLaws: all pass. ListedLaws, FileLaws: what listing and writing a file answer of a known front.
pub mod TestLaws
pub mod TableLaws
pub mod ListedLaws
pub mod FileLaws
pub mod CaseLaws
