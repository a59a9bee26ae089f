-- Laws of the C boundary, for callers: what each contract allows is determined (AnswerLaws).
pub mod AnswerLaws
