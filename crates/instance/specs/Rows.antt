-- Document 01, 'Instance tables' (kinds) and request 02 of document 02 (margins).
use Rattle.std.specs.Prelude.{Bool, cond, List, ℕ, eqb, ℤ, pos, nat_abs, neg_ℤ, ◌-ℤ◌}
use Rattle.std.specs.Int.Signed.{le_z}
use Rattle.instance.specs.Terms.{Term, sum}

-- An objective or a row: kind (1 objective, 2 >=, 3 <=, 4 =), terms, bound (0 for an objective).
pub record Entry : Type 0 where
  pub kind : ℕ
  pub terms : List Term
  pub bound : ℤ

-- How far a sum is from breaking a row: sum minus bound for >=, bound minus sum for <=, and for = zero or minus the distance.
abbrev pub margin_of : ℕ → ℤ → ℤ → ℤ
margin_of kind s b = cond (eqb kind 2) (s -ℤ b) (cond (eqb kind 3) (b -ℤ s) (neg_ℤ (pos (nat_abs (s -ℤ b)))))

-- A row's margin under an assignment.
abbrev pub margin : Entry → ℕ → ℤ
margin e a = margin_of e.kind (sum e.terms a) e.bound

-- A row holds exactly when its margin is 0 or more.
abbrev pub holds : Entry → ℕ → Bool
holds e a = le_z (pos 0) (margin e a)
