-- NumberLaws: a number by its bits from v up. LowerLaws: one variable more is settled.
pub mod NumberLaws
pub mod LowerLaws
