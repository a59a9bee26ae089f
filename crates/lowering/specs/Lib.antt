-- What a smallest witness is. Read Smallest.
pub mod Smallest
