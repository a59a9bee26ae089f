-- Document 01, 'Refusal numbers': what the check of tables answers.
use Rattle.std.specs.Prelude.{◌≡◌, List, ℕ, ℤ, Result, Ok, Err}
use Rattle.instance.specs.Tables.{objectives_in, rows_in, terms_in, IsInstance}
use Rattle.instance.specs.Meaning.{meaning}
use Rattle.refusals.specs.declared.NotInstance.{NotInstance}
use Rattle.instance.specs.declared.tables.Instance.{Instance as Sized}

-- The tables are an instance, and s has its sizes.
pub record SizesOf (ts rs : List ℤ) (s : Sized) : Type 0 where
  pub is : IsInstance ts rs
  pub objectives : s.objectives ≡ objectives_in rs
  pub rows : s.rows ≡ rows_in rs
  pub terms : s.terms ≡ terms_in rs
  pub variables : s.variables ≡ (meaning ts rs).variables

-- Tables that are an instance answer its sizes; a refusal says that they are none.
abbrev pub CheckedAs : List ℤ → List ℤ → Result Sized NotInstance → Type 0
CheckedAs ts rs (Ok s) = SizesOf ts rs s
CheckedAs ts rs (Err e) = IsInstance ts rs → ⊥

-- The number of each answer: 0 for done, 10 for tables that are not an instance.
abbrev pub checked_number : Result Sized NotInstance → ℕ
checked_number (Ok s) = 0
checked_number (Err e) = 10
