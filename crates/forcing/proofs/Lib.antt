-- For the crates above: R6, and that the sure cost is a lower bound.
pub mod ForceLaws
