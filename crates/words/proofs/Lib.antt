-- Laws of the bytes and marks of a text. MarkLaws and NumberLaws serve the reader of statements.
pub mod ByteLaws
pub mod MarkLaws
pub mod NumberLaws
pub mod TokenLaws
