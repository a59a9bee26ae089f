-- Document 01, 'The front', computed: the front of the feasible assignments below a number, found by adding one after the other.
use Rattle.std.specs.Prelude.{◌≡◌, Bool, true, false, cond, not, ◌&&◌, ◌||◌, List, [], ◌∷◌, ℕ, zero, suc, ◌<◌, ℤ}
use Rattle.points.specs.Vectors.{le_all, lex}
use Rattle.points.specs.Fronts.{Candidate}

-- The candidates: assignments below n that are feasible, each with its value.
pub record Candidates (feasible : ℕ → Bool) (value : ℕ → List ℤ) (n : ℕ) (c : Candidate) : Type 0 where
  pub fits : c.model < n
  pub feasible_is : feasible c.model ≡ true
  pub value_is : c.vector ≡ value c.model

-- x covers c, as a test: two vectors are equal where each is at most the other.
unfoldable pub covers : (ℕ → ℕ → Bool) → Candidate → Candidate → Bool
covers before x c = le_all x.vector c.vector && not (le_all c.vector x.vector && before c.model x.model)

-- One of the list covers c.
unfoldable pub covered : (ℕ → ℕ → Bool) → List Candidate → Candidate → Bool
covered before [] c = false
covered before (x ∷ xs) c = covers before x c || covered before xs c

-- Those of the list that c does not cover.
unfoldable pub uncovered : (ℕ → ℕ → Bool) → Candidate → List Candidate → List Candidate
uncovered before c [] = []
uncovered before c (x ∷ xs) = cond (covers before c x) (uncovered before c xs) (x ∷ uncovered before c xs)

-- c put in its place of a rising list.
unfoldable pub placed : Candidate → List Candidate → List Candidate
placed c [] = c ∷ []
placed c (x ∷ xs) = cond (lex x.vector c.vector) (x ∷ placed c xs) (c ∷ (x ∷ xs))

-- A candidate that a listed one covers is left out; else the listed ones that it covers are taken out, and it is put in its place.
unfoldable pub added : (ℕ → ℕ → Bool) → Candidate → List Candidate → List Candidate
added before c xs = cond (covered before xs c) xs (placed c (uncovered before c xs))

-- An assignment that is not feasible is left out.
unfoldable pub added_if : (ℕ → ℕ → Bool) → Bool → Candidate → List Candidate → List Candidate
added_if before false c xs = xs
added_if before true c xs = added before c xs

-- The front of the candidates below n.
unfoldable pub front_below : (feasible : ℕ → Bool) → (value : ℕ → List ℤ) → (before : ℕ → ℕ → Bool) → ℕ → List Candidate
front_below feasible value before zero = []
front_below feasible value before (suc n) = added_if before (feasible n) (record { vector = value n; model = n }) (front_below feasible value before n)
