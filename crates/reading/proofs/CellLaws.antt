-- Laws of the tables' cells: a term that is not stored, a room cleared. Assumes nothing.
use mathlib.Core.Path.{◌≡◌, refl, sym, ap, ◌∙◌}
use mathlib.Core.Bool.{Bool, false, not, cond, ◌&&◌}
use mathlib.Core.List.{List, [], ◌++◌}
use Prim.Native.Nat.{ℕ, ◌+◌, ◌*◌, ◌≤◌, ◌<◌}
use lib.IntN.{ℤ, pos}
use lib.ListN.{drop, set, replicate}
use borrow.Author.Tests.{lt-ltb, le-ltb}
use Rattle.instance.specs.Limits.{max_terms, term_room, row_room}
use Rattle.instance.specs.Terms.{Term}
use Rattle.instance.specs.Layout.{term_table, row_table, term_numbers, all_terms, entry_numbers}
use Rattle.reading.specs.Reading.{is_wide, is_unnamed}
use Rattle.reading.specs.Stored.{is_stored, store_at}

-- ---- store_at

module _ (ts : List ℤ) (k : ℕ) (t : Term) where
  picked : {b : Bool} → is_stored k t ≡ b → store_at ts k t ≡ cond b (set (set ts (k * 2) t.coef) (k * 2 + 1) t.lit) ts
  picked e = ap (λ (b : Bool). cond b (set (set ts (k * 2) t.coef) (k * 2 + 1) t.lit) ts) e

  -- a term with no room is not stored
  pub store-full : max_terms ≤ k → ts ≡ store_at ts k t
  store-full h = sym (picked (ap (λ (b : Bool). b && (not (is_wide t) && not (is_unnamed t))) (le-ltb k max_terms h)))

  pub store-yes : k < max_terms → is_wide t ≡ false → is_unnamed t ≡ false → set (set ts (k * 2) t.coef) (k * 2 + 1) t.lit ≡ store_at ts k t
  store-yes h g f = sym (picked (ap (λ (b : Bool). b && (not (is_wide t) && not (is_unnamed t))) (lt-ltb k max_terms h) ∙ ap (λ (b : Bool). not b && not (is_unnamed t)) g ∙ ap not f))

-- ---- a room cleared

pub terms-clear : (ts : List ℤ) → replicate term_room (pos 0) ++ drop term_room ts ≡ term_table [] ts
unfolding term_numbers all_terms
terms-clear ts = refl

pub rows-clear : (rs : List ℤ) → replicate row_room (pos 0) ++ drop row_room rs ≡ row_table [] rs
unfolding entry_numbers
rows-clear rs = refl
