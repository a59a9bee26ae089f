-- An instance in natural numbers. Read Halves (half rows), Rows (how they are laid out), Costs (objectives), then Normal (what all this has to
-- do with the instance).
pub mod Halves
pub mod Rows
pub mod Grown
pub mod Costs
pub mod Normal
pub mod Ceilings
