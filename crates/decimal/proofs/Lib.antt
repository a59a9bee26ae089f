-- Laws, for the crates that write text, read it, or list points:
-- OverwriteLaws: what puts leave, one after the other
-- DecimalLaws: the bytes, the length and the value of a number in decimal
-- NumeralLaws: digits, numerals, and what reading one goes by
-- PutLaws: a number by its digits, an integer by its sign and size
pub mod OverwriteLaws
pub mod NumeralLaws
pub mod DecimalLaws
pub mod PutLaws
