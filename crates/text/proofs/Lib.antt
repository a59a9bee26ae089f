-- The round trip of instance text. For readers: RoundTripLaws (texts and tables) and AnswerLaws (by what the operations promise).
-- WriteReadLaws, ReadWithinLaws: the two halves of it
-- WordLaws, MarkLaws, StatementLaws: words, marks and statements that are written, read again
-- KindLaws, HeldLaws, VerdictLaws: entries that the grammar says, that tables can hold, that pass the tests of reading
pub mod WordLaws
pub mod MarkLaws
pub mod StatementLaws
pub mod KindLaws
pub mod HeldLaws
pub mod VerdictLaws
pub mod WriteReadLaws
pub mod ReadWithinLaws
pub mod RoundTripLaws
pub mod AnswerLaws
