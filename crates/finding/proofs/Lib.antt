-- For the crates above: children of a part, complete parts.
pub mod FindLaws
