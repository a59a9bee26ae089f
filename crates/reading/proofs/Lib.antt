-- Laws of reading. AnswerLaws (answers are determined) and VerdictLaws are for readers; the others serve the proofs of the functions, from the leaves up.
pub mod CellLaws
pub mod ParseLaws
pub mod StepLaws
pub mod RunLaws
pub mod StatementLaws
pub mod ClosingLaws
pub mod WholeLaws
pub mod FillLaws
pub mod MarksLaws
pub mod VerdictLaws
pub mod ReadLaws
pub mod TakeLaws
pub mod AnswerLaws
