-- The worked instances. Read Texts (their bytes), Rules (what holds of a case), then Cases (the table).
pub mod Texts
pub mod Rules
pub mod Cases
