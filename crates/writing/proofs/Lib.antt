-- Laws, for the crates that read text back or list it:
-- RestLaws: what puts leave to be written
-- TextLaws: the parts of a text
-- LengthLaws, WithinLaws: how long the parts and the whole can be
-- LongestLaws: an instance with the longest text
-- TableTextLaws: the text of tables, entry by entry
-- AnswerLaws: answers are determined
pub mod RestLaws
pub mod TextLaws
pub mod LengthLaws
pub mod WithinLaws
pub mod LongestLaws
pub mod TableTextLaws
pub mod AnswerLaws
