-- Document 01, 'Instance tables': the numbers of the tables, and when tables are an instance.
use Rattle.std.specs.Prelude.{◌≡◌, Bool, false, ◌||◌, List, ℕ, zero, suc, ◌+◌, ◌-◌, ◌*◌, ◌≤◌, ◌<◌, T, eqb, ℤ, pos, negsuc, nat_abs, get_or, length}
use Rattle.std.specs.Int.Signed.{non_neg}
use Rattle.instance.specs.Limits.{max_objectives, max_rows, max_terms, max_bound, max_entries, term_room, row_room}
use Rattle.instance.specs.Lists.{run}
use Rattle.instance.specs.Terms.{Term, TermOk}

-- Terms: two numbers for a term, coefficient and literal.
abbrev pub term_at : List ℤ → ℕ → Term
term_at ts k = record { coef = get_or ts (k * 2) (pos 0); lit = get_or ts (k * 2 + 1) (pos 0) }

-- Rows: four numbers for an entry, kind, first term's index, count of terms, bound.
abbrev pub kind_at : List ℤ → ℕ → ℤ
kind_at rs k = get_or rs (k * 4) (pos 0)

abbrev pub first_at : List ℤ → ℕ → ℤ
first_at rs k = get_or rs (k * 4 + 1) (pos 0)

abbrev pub count_at : List ℤ → ℕ → ℤ
count_at rs k = get_or rs (k * 4 + 2) (pos 0)

abbrev pub bound_at : List ℤ → ℕ → ℤ
bound_at rs k = get_or rs (k * 4 + 3) (pos 0)

-- The kind is the number k.
abbrev pub is_kind : ℕ → ℤ → Bool
is_kind k (pos n) = eqb n k
is_kind k (negsuc n) = false

-- Kind 1 is an objective.
abbrev pub is_objective : List ℤ → ℕ → Bool
is_objective rs k = is_kind 1 (kind_at rs k)

-- Kinds 2, 3 and 4 are rows: >=, <= and =.
abbrev pub is_row : List ℤ → ℕ → Bool
is_row rs k = is_kind 2 (kind_at rs k) || (is_kind 3 (kind_at rs k) || is_kind 4 (kind_at rs k))

-- Objectives come first: so many of them,
abbrev pub objectives_in : List ℤ → ℕ
objectives_in rs = run (is_objective rs) 0 max_entries

-- then rows: so many.
abbrev pub rows_in : List ℤ → ℕ
rows_in rs = run (is_row rs) (objectives_in rs) (max_entries - objectives_in rs)

-- Objectives and rows together.
abbrev pub entries_in : List ℤ → ℕ
entries_in rs = objectives_in rs + rows_in rs

-- The sum of the counts before entry k.
unfoldable pub terms_before : List ℤ → ℕ → ℕ
terms_before rs zero = 0
terms_before rs (suc k) = terms_before rs k + nat_abs (count_at rs k)

-- The total of the counts.
abbrev pub terms_in : List ℤ → ℕ
terms_in rs = terms_before rs (entries_in rs)

-- A used entry: its first index is the sum of the counts before it, its count is 0 or more, its bound is in range.
pub record EntryOk (rs : List ℤ) (k : ℕ) : Type 0 where
  pub first : first_at rs k ≡ pos (terms_before rs k)
  pub count : T (non_neg (count_at rs k))
  pub bound : nat_abs (bound_at rs k) ≤ max_bound

-- The numbers from `first` up to `end` are zero.
abbrev pub ZeroFrom : List ℤ → ℕ → ℕ → Type 0
ZeroFrom xs first end = (i : ℕ) → first ≤ i → i < end → get_or xs i (pos 0) ≡ pos 0

-- Tables are an instance when both have their room and 1 to 4 objectives come first, then 0 to 256 rows, then unused entries all
-- zero; used entries are as they should be, the total is at most 4,096, an objective's bound is 0; each coefficient and variable is in
-- range and no literal within the total is 0; the term numbers after the total, up to the room, are zero.
pub record IsInstance (ts rs : List ℤ) : Type 0 where
  pub terms_room : term_room ≤ length ts
  pub rows_room : row_room ≤ length rs
  pub some_objective : 1 ≤ objectives_in rs
  pub few_objectives : objectives_in rs ≤ max_objectives
  pub few_rows : rows_in rs ≤ max_rows
  pub unused : ZeroFrom rs (entries_in rs * 4) row_room
  pub used : (k : ℕ) → k < entries_in rs → EntryOk rs k
  pub few_terms : terms_in rs ≤ max_terms
  pub no_bound : (k : ℕ) → k < objectives_in rs → bound_at rs k ≡ pos 0
  pub terms : (k : ℕ) → k < terms_in rs → TermOk (term_at ts k)
  pub rest : ZeroFrom ts (terms_in rs * 2) term_room
