-- What the grammar says of an entry: an objective with bound 0, or a row of one of three relations. Assumes nothing.
use mathlib.Core.Path.{◌≡◌, refl}
use mathlib.Core.Bool.{Bool, true, false, cond}
use mathlib.Core.List.{List, [], ◌∷◌}
use mathlib.Core.Logic.{◌⊎◌, inl, inr}
use Rattle.std.specs.Prelude.{Option, None, Some}
use Prim.Native.Nat.{ℕ, ◌≤◌}
use native.Mathlib.Omega.{arith}
use borrow.Author.Tests.{eqb-false}
use lib.Dec.{eqb}
use lib.IntN.{ℤ}
use Rattle.words.specs.Numbers.{number, literal, relation, is_min}
use Rattle.instance.specs.Terms.{Term}
use Rattle.instance.specs.Rows.{Entry}
use Rattle.instance.specs.Layout.{ObjectiveOk}
use Rattle.reading.specs.Grammar.{Words, term_of, add_term, objective, row, row_end, row_step, statement}
use Rattle.reading.proofs.StatementLaws.{relation-le}

-- An objective with bound 0, or a row of kind 2, 3 or 4.
abbrev pub Kinded : Entry → Type 0
Kinded e = ObjectiveOk e ⊎ ((2 ≤ e.kind) × (e.kind ≤ 4))

-- The entry, if there is one, is so.
abbrev pub SomeKinded : Option Entry → Type 0
SomeKinded None = Unit {0}
SomeKinded (Some e) = Kinded e

-- ---- relation

pick_low : (t : Bool) (a b : ℕ) → ((a ≡ 0 → ⊥) → 2 ≤ a) → ((b ≡ 0 → ⊥) → 2 ≤ b) → (cond t a b ≡ 0 → ⊥) → 2 ≤ cond t a b
pick_low true a b h k n = h n
pick_low false a b h k n = k n

none-low : (◌≡◌ {A = ℕ} 0 0 → ⊥) → ◌≤◌ 2 0
none-low n = absurd (n refl)

relation-low : (w : List ℕ) → (relation w ≡ 0 → ⊥) → 2 ≤ relation w
relation-low [] n = none-low n
relation-low (a ∷ []) n = pick_low (eqb a 61) 4 0 (λ _. omega arith) none-low n
relation-low (a ∷ (b ∷ [])) n =
    pick_low (eqb b 61) (cond (eqb a 62) 2 (cond (eqb a 60) 3 0)) 0
    (pick_low (eqb a 62) 2 (cond (eqb a 60) 3 0) (λ _. omega arith) (pick_low (eqb a 60) 3 0 (λ _. omega arith) none-low)) none-low n
relation-low (a ∷ (b ∷ (c ∷ w))) n = none-low n

-- ---- a term more

add-kinded : (t : Option Term) (o : Option Entry) → SomeKinded o → SomeKinded (add_term t o)
add-kinded None o h = tt
add-kinded (Some t) None h = tt
add-kinded (Some t) (Some e) (inl o) = inl (record { kind = o.kind; bound = o.bound })
add-kinded (Some t) (Some e) (inr k) = inr k

-- ---- objective, row, statement

objective-kinded : (ws : Words) → SomeKinded (objective ws)
unfolding objective
objective-kinded [] = inl (record { kind = refl; bound = refl })
objective-kinded (c ∷ []) = tt
objective-kinded (c ∷ (l ∷ ws)) = add-kinded (term_of (number c) (literal l)) (objective ws) (objective-kinded ws)

end-kinded : (k : ℕ) (z : Option ℤ) (ws : Words) → 2 ≤ k → k ≤ 4 → SomeKinded (row_end k z ws)
end-kinded k None ws l h = tt
end-kinded k (Some b) [] l h = inr (l, h)
end-kinded k (Some b) (w ∷ ws) l h = tt

step-kinded : (w v : List ℕ) (ws : Words) → SomeKinded (row ws) → SomeKinded (row_step (eqb (relation w) 0) (add_term (term_of (number w) (literal v)) (row ws)) (row_end (relation w) (number v) ws))
step-kinded w v ws h = by (eqb (relation w) 0) refl
  where
    by : (t : Bool) → eqb (relation w) 0 ≡ t → SomeKinded (row_step t (add_term (term_of (number w) (literal v)) (row ws)) (row_end (relation w) (number v) ws))
    by true e = add-kinded (term_of (number w) (literal v)) (row ws) h
    by false e = end-kinded (relation w) (number v) ws (relation-low w (eqb-false (relation w) 0 e)) (relation-le w)

row-kinded : (ws : Words) → SomeKinded (row ws)
unfolding row
row-kinded [] = tt
row-kinded (w ∷ []) = tt
row-kinded (w ∷ (v ∷ ws)) = step-kinded w v ws (row-kinded ws)

either-kinded : (t : Bool) (a b : Option Entry) → SomeKinded a → SomeKinded b → SomeKinded (cond t a b)
either-kinded true a b h k = h
either-kinded false a b h k = k

pub statement-kinded : (ws : Words) → SomeKinded (statement ws)
statement-kinded [] = tt
statement-kinded (w ∷ ws) = either-kinded (is_min w) (objective ws) (row (w ∷ ws)) (objective-kinded ws) (row-kinded (w ∷ ws))
