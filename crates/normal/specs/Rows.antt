-- Half rows laid out, the terms of each behind those of the half rows before it.
use Rattle.std.specs.Prelude.{◌≡◌, Bool, List, [], ◌∷◌, map, ◌++◌, ℕ, ◌+◌, ℤ, length, take}
use Rattle.charging.specs.declared.rows.Term.{Term}
use Rattle.instance.specs.Meaning.{terms_at}
use Rattle.normal.specs.declared.Half.{Half}
use Rattle.normal.specs.Halves.{half_of, lost_all}

-- The terms of a half row, from the table.
abbrev pub halves_at : List ℤ → ℕ → ℕ → Bool → List Half
halves_at ts first count turn = map (half_of turn) (terms_at ts first count)

-- The terms that the search counts by.
abbrev pub terms_of : List Half → List Term
terms_of hs = map (λ h. h.term) hs

-- What laying out the terms of a half row leaves and answers: they stand from `at` on; before and behind them all is as found.
pub record HalfPut (ts : List ℤ) (first count : ℕ) (turn : Bool) (at : ℕ) (before after : List Term) (r : ℕ) : Type 0 where
  pub same : length after ≡ length before
  pub laid : take (at + count) after ≡ take at before ++ terms_of (halves_at ts first count turn)
  pub lost : r ≡ lost_all (halves_at ts first count turn)

-- A half row: its terms and its need.
pub record HalfRow : Type 0 where
  pub terms : List Half
  pub need : ℕ

-- The terms of all half rows, in order.
unfoldable pub all_halves : List HalfRow → List Half
all_halves [] = []
all_halves (r ∷ rs) = r.terms ++ all_halves rs

-- Where each half row's terms begin, and last where they end.
unfoldable pub starts_from : ℕ → List HalfRow → List ℕ
starts_from first [] = first ∷ []
starts_from first (r ∷ rs) = first ∷ starts_from (first + length r.terms) rs

-- The runs hold the half rows: `halves` of them, with `used` terms.
pub record Laid (hs : List HalfRow) (starts : List ℕ) (laid : List Term) (needs : List ℕ) (halves used : ℕ) : Type 0 where
  pub halves_is : halves ≡ length hs
  pub used_is : used ≡ length (all_halves hs)
  pub starts_are : take (halves + 1) starts ≡ starts_from 0 hs
  pub terms_are : take used laid ≡ terms_of (all_halves hs)
  pub needs_are : take halves needs ≡ map (λ r. r.need) hs
