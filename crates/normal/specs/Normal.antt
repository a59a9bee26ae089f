-- The normal tables of an instance: what the search counts by, and what it has to do with the instance's meaning.
use Rattle.std.specs.Prelude.{◌≡◌, true, ℕ, ℤ}
use mathlib.Core.List.{List, Memᴰ}
use Rattle.charging.specs.declared.rows.Cost.{Cost}
use Rattle.charging.specs.declared.rows.Rows.{Rows}
use Rattle.charging.specs.Rows.{bit}
use Rattle.charging.specs.Meets.{Meets}
use Rattle.instance.specs.Rows.{Entry, holds}
use Rattle.instance.specs.Tables.{objectives_in, IsInstance}
use Rattle.instance.specs.Meaning.{meaning}
use Rattle.normal.specs.Costs.{OrderedAll, PricedAll}

-- All rows of the instance hold.
abbrev pub RowsHold : List ℤ → List ℤ → ℕ → Type 0
RowsHold ts rs a = (e : Entry) → Memᴰ e (meaning ts rs).rows → holds e a ≡ true

-- Assignments meet the half rows exactly where all rows hold, and each objective's costs have the order of its values.
pub record InOrder (ts rs : List ℤ) (k : ℕ) (rows : Rows) (costs : List Cost) : Type 0 where
  pub is : IsInstance ts rs
  pub variables : rows.n ≡ (meaning ts rs).variables
  pub objectives : k ≡ objectives_in rs
  pub rows_hold : (a : ℕ) → Meets rows (bit a) → RowsHold ts rs a
  pub rows_met : (a : ℕ) → RowsHold ts rs a → Meets rows (bit a)
  pub priced : OrderedAll ts rs rows.n k costs

-- The same, where no cost is above what a value can be.
pub record Normal (ts rs : List ℤ) (k : ℕ) (rows : Rows) (costs : List Cost) : Type 0 where
  pub is : IsInstance ts rs
  pub variables : rows.n ≡ (meaning ts rs).variables
  pub objectives : k ≡ objectives_in rs
  pub rows_hold : (a : ℕ) → Meets rows (bit a) → RowsHold ts rs a
  pub rows_met : (a : ℕ) → RowsHold ts rs a → Meets rows (bit a)
  pub priced : PricedAll ts rs rows.n k costs
