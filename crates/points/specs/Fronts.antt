-- Document 01, 'The front', said of any candidates and any strict total order of assignments (document 02, request 07).
use Rattle.std.specs.Prelude.{◌≡◌, ◌⊎◌, ℕ, ℤ}
use mathlib.Core.List.{List, [], ◌∷◌, Memᴰ}
use Rattle.points.specs.Vectors.{LeAll, Dominates, Lex}

-- A candidate: a vector with an assignment that has it.
pub record Candidate : Type 0 where
  pub vector : List ℤ
  pub model : ℕ

-- A strict total order of assignments: `Before a b` when the witness rule puts a before b.
pub record StrictOrder (Before : ℕ → ℕ → Type 0) : Type 0 where
  pub never : (a : ℕ) → Before a a → ⊥
  pub chain : (a b c : ℕ) → Before a b → Before b c → Before a c
  pub either : (a b : ℕ) → Before a b ⊎ ((a ≡ b) ⊎ Before b a)

-- x covers c: its vector is at most c's in every place and, where the two are equal, its assignment is not after c's.
pub record Covers (Before : ℕ → ℕ → Type 0) (x c : Candidate) : Type 0 where
  pub at_most : LeAll x.vector c.vector
  pub first : x.vector ≡ c.vector → Before c.model x.model → ⊥

-- Vectors strictly rising: each comes before all after it.
unfoldable pub Rising : List Candidate → Type 0
Rising [] = Unit
Rising (x ∷ xs) = ((y : Candidate) → Memᴰ y xs → Lex x.vector y.vector) × Rising xs

-- The list has a candidate that covers c.
pub record Covered (Before : ℕ → ℕ → Type 0) (xs : List Candidate) (c : Candidate) : Type 0 where
  pub by : Candidate
  pub member : Memᴰ by xs
  pub covers : Covers Before by c

-- xs is the front of the candidates that have C: each of xs is one, vectors strictly rise, none dominates another, and each candidate is covered.
pub record IsFront (C : Candidate → Type 0) (Before : ℕ → ℕ → Type 0) (xs : List Candidate) : Type 0 where
  pub members : (x : Candidate) → Memᴰ x xs → C x
  pub rising : Rising xs
  pub apart : (x y : Candidate) → Memᴰ x xs → Memᴰ y xs → Dominates x.vector y.vector → ⊥
  pub complete : (c : Candidate) → C c → Covered Before xs c

-- ---- how a front is listed, point after point

-- No candidate of xs is at most c in every place.
abbrev pub Fresh : List Candidate → Candidate → Type 0
Fresh xs c = (x : Candidate) → Memᴰ x xs → LeAll x.vector c.vector → ⊥

-- xs is how the front begins: its members are candidates, strictly rising, none dominates another, each has the first assignment of its vector,
-- and each candidate that is fresh comes after all of xs.
pub record Begins (C : Candidate → Type 0) (Before : ℕ → ℕ → Type 0) (xs : List Candidate) : Type 0 where
  pub members : (x : Candidate) → Memᴰ x xs → C x
  pub rising : Rising xs
  pub apart : (x y : Candidate) → Memᴰ x xs → Memᴰ y xs → Dominates x.vector y.vector → ⊥
  pub first : (x c : Candidate) → Memᴰ x xs → C c → c.vector ≡ x.vector → Before c.model x.model → ⊥
  pub after : (c : Candidate) → C c → Fresh xs c → (x : Candidate) → Memᴰ x xs → Lex x.vector c.vector

-- x comes next: of the fresh candidates none has a vector before its, and of those with its vector none has an assignment before its.
pub record ComesNext (C : Candidate → Type 0) (Before : ℕ → ℕ → Type 0) (xs : List Candidate) (x : Candidate) : Type 0 where
  pub member : C x
  pub fresh : Fresh xs x
  pub least : (c : Candidate) → C c → Fresh xs c → Lex c.vector x.vector → ⊥
  pub first : (c : Candidate) → C c → c.vector ≡ x.vector → Before c.model x.model → ⊥
