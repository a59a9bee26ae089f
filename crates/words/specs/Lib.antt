-- The bytes of instance text. Read Bytes, Tokens, Numbers; Answers says what the code's answers mean.
pub mod Bytes
pub mod Tokens
pub mod Numbers
pub mod Answers
