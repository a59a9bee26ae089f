-- For the crate above: StockLaws, SeekLaws. SliceLaws serves earlier.
pub mod StockLaws
pub mod SeekLaws
pub mod SliceLaws
