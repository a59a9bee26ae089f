-- OrderLaws for every crate that compares vectors; CapLaws for capping's own functions.
pub mod OrderLaws
pub mod CapLaws
