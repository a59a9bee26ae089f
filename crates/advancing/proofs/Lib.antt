-- For the lister above: NextLaws.
pub mod NextLaws
