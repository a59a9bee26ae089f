-- Laws for the crates above: tests (TestLaws) for any crate; lists by index, runs, terms and sums
-- (ListLaws, SumLaws) for judging and listing; lists in chunks (ChunkLaws) for points and blocks; what an instance gives (InstanceLaws) for whoever reads tables that were checked; that
-- answers are determined (AnswerLaws). For whoever fills tables: the numbers of given entries (NumberLaws), the tables that hold an
-- instance are one and mean it (LayoutLaws), and tables that are an instance are those that hold their meaning (MeaningLaws).
-- TableLaws serve the check itself, ReadLaws serve LayoutLaws.
pub mod TestLaws
pub mod BitLaws
pub mod ListLaws
pub mod ChunkLaws
pub mod SumLaws
pub mod TableLaws
pub mod NumberLaws
pub mod InstanceLaws
pub mod MeaningLaws
pub mod ReadLaws
pub mod LayoutLaws
pub mod AnswerLaws
