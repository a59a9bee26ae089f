-- Document 01, 'The front' and 'Orders': the first unmet row, and the four values of a vector. Last, what summing asks.
use Rattle.std.specs.Prelude.{cond, List, [], ◌∷◌, ℕ, suc, ◌≤◌, ℤ, pos, get_or, length}
use Rattle.instance.specs.Limits.{max_terms, term_room}
use Rattle.instance.specs.Rows.{Entry, holds}
use Rattle.instance.specs.Parts.{TermsOk}

-- The number of the first row that does not hold, where the first of them has number k; 0 if all hold.
unfoldable pub unmet_from : ℕ → List Entry → ℕ → ℕ
unmet_from k [] a = 0
unmet_from k (e ∷ es) a = cond (holds e a) (unmet_from (suc k) es a) k

-- Rows count from 1.
abbrev pub first_unmet : List Entry → ℕ → ℕ
first_unmet rows a = unmet_from 1 rows a

-- Four values, unused ones 0.
abbrev pub padded : List ℤ → List ℤ
padded v = get_or v 0 (pos 0) ∷ (get_or v 1 (pos 0) ∷ (get_or v 2 (pos 0) ∷ (get_or v 3 (pos 0) ∷ [])))

-- The first n terms can be summed: they lie in the table, are in range, and are at most 4,096.
pub record Summable (ts : List ℤ) (n : ℕ) : Type 0 where
  pub room : term_room ≤ length ts
  pub few : n ≤ max_terms
  pub terms : TermsOk ts n
