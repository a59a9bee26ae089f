-- For every crate of the search: parts and what narrowing loses (PartLaws). PutLaws serves put and blank.
pub mod PutLaws
pub mod PartLaws
