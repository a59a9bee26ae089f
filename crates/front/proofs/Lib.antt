-- Laws of listing. For callers: answers are determined and the list is complete (AnswerLaws); the runs hold the list, which is proper (ProperLaws);
-- every instance has one front (FrontLaws). VectorLaws, ListingLaws, StepLaws and RowLaws serve the proofs of the functions.
pub mod FrontLaws
pub mod VectorLaws
pub mod ListingLaws
pub mod StepLaws
pub mod RowLaws
pub mod AnswerLaws
pub mod ProperLaws
