-- Document 01: what tables mean as an instance, when an assignment is feasible, and its vector ('The front').
use Rattle.std.specs.Prelude.{◌≡◌, true, ℕ, ◌^◌, ◌<◌, ℤ, nat_abs}
use mathlib.Core.List.{List, map, ◌++◌, Memᴰ}
use Rattle.instance.specs.Lists.{tabulate}
use Rattle.instance.specs.Terms.{Term, sum, highest}
use Rattle.instance.specs.Rows.{Entry, holds}
use Rattle.instance.specs.Tables.{term_at, kind_at, first_at, count_at, bound_at, objectives_in, rows_in, terms_in}

-- The number of variables, the objectives and the rows, in their order.
pub record Instance : Type 0 where
  pub variables : ℕ
  pub objectives : List Entry
  pub rows : List Entry

-- Objectives, then rows.
abbrev pub entries : Instance → List Entry
entries i = i.objectives ++ i.rows

-- The n terms from `first` on.
abbrev pub terms_at : List ℤ → ℕ → ℕ → List Term
terms_at ts first n = tabulate (term_at ts) first n

-- Entry k: its kind, its terms, its bound.
abbrev pub entry_at : List ℤ → List ℤ → ℕ → Entry
entry_at ts rs k = record { kind = nat_abs (kind_at rs k); terms = terms_at ts (nat_abs (first_at rs k)) (nat_abs (count_at rs k)); bound = bound_at rs k }

-- What tables mean: n is the highest variable named in any term.
abbrev pub meaning : List ℤ → List ℤ → Instance
meaning ts rs = record {
  variables = highest (terms_at ts 0 (terms_in rs));
  objectives = tabulate (entry_at ts rs) 0 (objectives_in rs);
  rows = tabulate (entry_at ts rs) (objectives_in rs) (rows_in rs);
}

-- Bits from n up are 0, and all rows hold.
pub record Feasible (i : Instance) (a : ℕ) : Type 0 where
  pub bits : a < 2 ^ i.variables
  pub rows_hold : (e : Entry) → Memᴰ e i.rows → holds e a ≡ true

-- The value of each objective.
abbrev pub vector : Instance → ℕ → List ℤ
vector i a = map (λ o. sum o.terms a) i.objectives
