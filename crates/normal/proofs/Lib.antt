-- Laws of an instance in natural numbers, for the lister.
-- Rows: HalfLaws (a term), RowLaws (a row holds where its half rows are met), MeetLaws (all rows), TableLaws (the runs are a table of the search).
-- Objectives: CostLaws, SettleLaws, ObjectiveLaws (cost and value have one order), PricedLaws. NormalLaws: all tables. CeilingLaws: half rows as caps.
-- The others serve the proofs of the functions: LaidLaws, AddLaws, GrownLaws, LayLaws, SpanLaws.
pub mod HalfLaws
pub mod RowLaws
pub mod LaidLaws
pub mod AddLaws
pub mod GrownLaws
pub mod LayLaws
pub mod SpanLaws
pub mod MeetLaws
pub mod TableLaws
pub mod CostLaws
pub mod SettleLaws
pub mod ObjectiveLaws
pub mod PricedLaws
pub mod NormalLaws
pub mod CeilingLaws
