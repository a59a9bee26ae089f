-- The C boundary. Read Words (how an answer is packed into one number), then Texts, Judgements, Listed and Filed (what each operation answers so).
pub mod Words
pub mod Texts
pub mod Judgements
pub mod Listed
pub mod Filed
