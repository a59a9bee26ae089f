-- For every crate of the search: sums, bits, parts of tables, and R1, R2 and R5 as laws.
pub mod SumLaws
pub mod BitLaws
pub mod TableLaws
pub mod ChargeLaws
