-- Points. Read Limits, Vectors, then Fronts (the front of any candidates), Computed (found by enumeration) and Lists (points in lent runs, and when a list is proper).
pub mod Limits
pub mod Vectors
pub mod Fronts
pub mod Computed
pub mod Lists
pub mod Structs
