-- Document 01, 'The front' (a point in lent runs) and 'Front file, form 1' (a proper list).
use Rattle.std.specs.Prelude.{◌≡◌, List, [], ◌∷◌, ℕ, ◌+◌, ◌*◌, ◌%◌, ◌^◌, ◌≤◌, ◌<◌, ℤ, pos, nat_abs, get_or, length, take, drop, ◌++◌}
use Rattle.instance.specs.Limits.{max_objectives}
use Rattle.points.specs.Limits.{max_points, max_bits, max_value}
use Rattle.points.specs.Vectors.{LeAll, Lex, Dominates}
use Rattle.points.specs.Fronts.{Candidate}

-- The values of point k: four numbers, unused ones 0.
abbrev pub values_at : List ℤ → ℕ → List ℤ
values_at vs k = get_or vs (k * 4) (pos 0) ∷ (get_or vs (k * 4 + 1) (pos 0) ∷ (get_or vs (k * 4 + 2) (pos 0) ∷ (get_or vs (k * 4 + 3) (pos 0) ∷ [])))

-- Its assignment.
abbrev pub model_at : List ℕ → ℕ → ℕ
model_at ms k = get_or ms k 0

-- Point k of the lent runs.
abbrev pub point_at : List ℤ → List ℕ → ℕ → Candidate
point_at vs ms k = record { vector = values_at vs k; model = model_at ms k }

-- The run with other values for point k.
abbrev pub values_put : List ℤ → ℕ → List ℤ → List ℤ
values_put vs k xs = take (k * 4) vs ++ (xs ++ drop (k * 4 + 4) vs)

-- Values of the first `points` points within 4,096,000,000 of zero; number i is a value of objective i % 4 + 1.
abbrev pub InRange : ℕ → List ℤ → Type 0
InRange points vs = (i : ℕ) → i < points * 4 → nat_abs (get_or vs i (pos 0)) ≤ max_value

-- Unused values 0.
abbrev pub UnusedZero : ℕ → ℕ → List ℤ → Type 0
UnusedZero objectives points vs = (i : ℕ) → i < points * 4 → objectives ≤ i % 4 → get_or vs i (pos 0) ≡ pos 0

-- Bits from n up 0.
abbrev pub BitsBelow : ℕ → ℕ → List ℕ → Type 0
BitsBelow n points ms = (k : ℕ) → k < points → model_at ms k < 2 ^ n

-- Vectors strictly rising.
abbrev pub RisingAt : ℕ → List ℤ → Type 0
RisingAt points vs = (k : ℕ) → k + 1 < points → Lex (values_at vs k) (values_at vs (k + 1))

-- None dominates another.
abbrev pub NoneDominates : ℕ → List ℤ → Type 0
NoneDominates points vs = (i j : ℕ) → i < points → j < points → Dominates (values_at vs i) (values_at vs j) → ⊥

-- A list is proper when objectives are 1 to 4, n at most 64, points at most 1,024 and within the lent runs, values within
-- 4,096,000,000 of zero, unused values 0, bits from n up 0, vectors strictly rising, and none dominates another.
pub record Proper (objectives n points : ℕ) (vs : List ℤ) (ms : List ℕ) : Type 0 where
  pub some_objective : 1 ≤ objectives
  pub few_objectives : objectives ≤ max_objectives
  pub few_variables : n ≤ max_bits
  pub few_points : points ≤ max_points
  pub values_room : points * 4 ≤ length vs
  pub models_room : points ≤ length ms
  pub in_range : InRange points vs
  pub unused : UnusedZero objectives points vs
  pub bits : BitsBelow n points ms
  pub rising : RisingAt points vs
  pub apart : NoneDominates points vs

-- ---- what the code's smaller functions decide

-- A value at place i is in range, and 0 where no objective has it.
pub record Fine (objectives i : ℕ) (v : ℤ) : Type 0 where
  pub in_range : nat_abs v ≤ max_value
  pub unused : objectives ≤ i % 4 → v ≡ pos 0

-- The first `count` values are.
abbrev pub ValuesFine : ℕ → List ℤ → ℕ → Type 0
ValuesFine objectives vs count = (i : ℕ) → i < count → Fine objectives i (get_or vs i (pos 0))

-- Each vector comes before the next.
abbrev pub RowsRise : List (List ℤ) → Type 0
RowsRise rows = (k : ℕ) → k + 1 < length rows → Lex (get_or rows k []) (get_or rows (k + 1) [])

-- A vector is at most none of these in every place.
abbrev pub NoneAbove : List ℤ → List (List ℤ) → Type 0
NoneAbove row rows = (k : ℕ) → k < length rows → LeAll row (get_or rows k []) → ⊥

-- No vector is at most a later one in every place.
abbrev pub RowsApart : List (List ℤ) → Type 0
RowsApart rows = (a : ℕ) → a < length rows → NoneAbove (get_or rows a []) (drop (a + 1) rows)

-- So in the lent run.
abbrev pub Apart : ℕ → List ℤ → Type 0
Apart points vs = (a k : ℕ) → a < k → k < points → LeAll (values_at vs a) (values_at vs k) → ⊥
