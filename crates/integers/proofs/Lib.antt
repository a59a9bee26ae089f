-- For every crate above that has signed numbers.
pub mod SignedLaws
