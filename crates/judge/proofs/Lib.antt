-- Laws for callers of judging, who need none of its code: answers are determined and say what is feasible (AnswerLaws); the vector, its
-- four values and their size (VectorLaws); bits from n up count for nothing (LowBitLaws); the first unmet row (UnmetLaws).
-- BitLaws, SummableLaws and MarginLaws serve the crate's own functions.
pub mod BitLaws
pub mod SummableLaws
pub mod MarginLaws
pub mod UnmetLaws
pub mod VectorLaws
pub mod LowBitLaws
pub mod AnswerLaws
