-- Laws for the crates above: the order of vectors and dominance (OrderLaws), by place (PlaceLaws), a front is determined (FrontLaws), lists in lent runs
-- (ListLaws), fronts in lent runs (RunLaws), the parts of a run by place (CompareLaws), and two answers that a contract of a test allows are equal
-- (decides-unique of TestLaws). RowLaws is for this crate alone.
-- For the lister, which finds a front point after point: how a front begins, grows and is whole (BeginLaws). For computed examples, and so that
-- there is a front: covering is a partial order with a test (CoverLaws), and the front that is computed is the front (ComputedLaws).
pub mod OrderLaws
pub mod CompareLaws
pub mod PlaceLaws
pub mod FrontLaws
pub mod TestLaws
pub mod ListLaws
mod RowLaws
pub mod RunLaws
pub mod BeginLaws
pub mod CoverLaws
pub mod ComputedLaws
