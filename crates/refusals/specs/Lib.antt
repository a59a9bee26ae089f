-- What answers have in common: their numbers.
pub mod Numbers
