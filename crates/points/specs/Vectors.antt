-- Document 01, 'The front': vectors, when one dominates another, and their order. Vectors that are compared have one length.
use Rattle.std.specs.Prelude.{◌≡◌, Bool, true, false, cond, ◌&&◌, List, [], ◌∷◌, ℤ}
use Rattle.std.specs.Int.Signed.{lt_z, le_z}

-- a is at most b in every place, as a test,
unfoldable pub le_all : List ℤ → List ℤ → Bool
le_all [] [] = true
le_all [] (y ∷ ys) = false
le_all (x ∷ xs) [] = false
le_all (x ∷ xs) (y ∷ ys) = le_z x y && le_all xs ys

-- and as a fact.
abbrev pub LeAll : List ℤ → List ℤ → Type 0
LeAll a b = le_all a b ≡ true

-- a dominates b when a is at most b in every place and a differs from b.
pub record Dominates (a b : List ℤ) : Type 0 where
  pub at_most : LeAll a b
  pub differs : a ≡ b → ⊥

-- a comes strictly before b, compared at objective 1, then 2, and so on: as a test,
unfoldable pub lex : List ℤ → List ℤ → Bool
lex a [] = false
lex [] (y ∷ ys) = true
lex (x ∷ xs) (y ∷ ys) = cond (lt_z x y) true (cond (lt_z y x) false (lex xs ys))

-- and as a fact.
abbrev pub Lex : List ℤ → List ℤ → Type 0
Lex a b = lex a b ≡ true
