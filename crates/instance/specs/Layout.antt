-- Document 01, 'Instance tables': the tables that hold given entries, and which entries tables can hold.
use Rattle.std.specs.Prelude.{◌≡◌, ℕ, ◌+◌, ◌-◌, ◌≤◌, ℤ, pos, nat_abs, length, drop, replicate}
use mathlib.Core.List.{List, [], ◌∷◌, ◌++◌, Memᴰ}
use Rattle.instance.specs.Limits.{max_objectives, max_rows, max_terms, max_bound, term_room, row_room}
use Rattle.instance.specs.Terms.{Term, TermOk, highest}
use Rattle.instance.specs.Rows.{Entry}
use Rattle.instance.specs.Meaning.{Instance, entries}

-- Two numbers for a term: coefficient and literal.
unfoldable pub term_numbers : List Term → List ℤ
term_numbers [] = []
term_numbers (t ∷ ts) = t.coef ∷ (t.lit ∷ term_numbers ts)

-- The terms of all entries, in order.
unfoldable pub all_terms : List Entry → List Term
all_terms [] = []
all_terms (e ∷ es) = e.terms ++ all_terms es

-- Four numbers for an entry: kind, first term's index (the sum of the counts before it), count of terms, bound.
unfoldable pub entry_numbers : ℕ → List Entry → List ℤ
entry_numbers first [] = []
entry_numbers first (e ∷ es) =
    pos e.kind ∷ (pos first ∷ (pos (length e.terms) ∷ (e.bound ∷ entry_numbers (first + length e.terms) es)))

-- The numbers, zeros up to the room's end, and all beyond as found.
abbrev pub filled : ℕ → List ℤ → List ℤ → List ℤ
filled room xs found = xs ++ (replicate (room - length xs) (pos 0) ++ drop room found)

-- The two tables that hold the entries, where they lay as found before.
abbrev pub term_table : List Entry → List ℤ → List ℤ
term_table es found = filled term_room (term_numbers (all_terms es)) found

abbrev pub row_table : List Entry → List ℤ → List ℤ
row_table es found = filled row_room (entry_numbers 0 es) found

-- An objective: kind 1, bound 0.
pub record ObjectiveOk (e : Entry) : Type 0 where
  pub kind : e.kind ≡ 1
  pub bound : e.bound ≡ pos 0

-- A row: kind 2, 3 or 4, its bound in range.
pub record RowOk (e : Entry) : Type 0 where
  pub kind_low : 2 ≤ e.kind
  pub kind_high : e.kind ≤ 4
  pub bound : nat_abs e.bound ≤ max_bound

-- An instance that the tables can hold: 1 to 4 objectives, 0 to 256 rows, at most 4,096 terms, all in range; n is the highest variable named.
pub record Within (i : Instance) : Type 0 where
  pub some_objective : 1 ≤ length i.objectives
  pub few_objectives : length i.objectives ≤ max_objectives
  pub few_rows : length i.rows ≤ max_rows
  pub few_terms : length (all_terms (entries i)) ≤ max_terms
  pub objectives : (e : Entry) → Memᴰ e i.objectives → ObjectiveOk e
  pub rows : (e : Entry) → Memᴰ e i.rows → RowOk e
  pub terms : (t : Term) → Memᴰ t (all_terms (entries i)) → TermOk t
  pub variables : i.variables ≡ highest (all_terms (entries i))
