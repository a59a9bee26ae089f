-- Document 01, 'The front': the candidates of an instance, its front, the room for points, and what the lent runs then hold.
use Rattle.std.specs.Prelude.{◌≡◌, Option, Some, None, List, [], ◌∷◌, ◌++◌, map, ℕ, ◌*◌, ◌/◌, ◌≤◌, ◌<◌, min, ℤ, length, take, drop}
use Rattle.charging.specs.declared.rows.Cost.{Cost}
use Rattle.charging.specs.declared.rows.Rows.{Rows}
use Rattle.instance.specs.Tables.{objectives_in, IsInstance}
use Rattle.instance.specs.Meaning.{Instance, meaning, vector, Feasible}
use Rattle.judge.specs.Judging.{padded}
use Rattle.normal.specs.Costs.{OrderedAll, PricedAll}
use Rattle.normal.specs.Ceilings.{Narrow}
use Rattle.normal.specs.Normal.{InOrder, Normal}
use Rattle.points.specs.Limits.{max_points, point_values}
use Rattle.points.specs.Fronts.{Candidate, IsFront}

-- A candidate of an instance: a feasible assignment with its vector, four values, unused ones 0.
pub record CandidateOf (i : Instance) (c : Candidate) : Type 0 where
  pub feasible : Feasible i c.model
  pub has_vector : c.vector ≡ padded (vector i c.model)

-- The witness is the smallest number: of two assignments with one vector the smaller comes first.
abbrev pub Smaller : ℕ → ℕ → Type 0
Smaller a b = a < b

-- xs is the front of the instance: each best vector once, in rising order, with its smallest witness.
abbrev pub FrontOf : Instance → List Candidate → Type 0
FrontOf i xs = IsFront (CandidateOf i) Smaller xs

-- The room R is the least of 1,024, a quarter of the first run's length rounded down, and the second's length.
abbrev pub room : List ℤ → List ℕ → ℕ
room vs ms = min max_points (min (length vs / point_values) (length ms))

-- The values of points, one after the other, and their assignments.
unfoldable pub values_of : List Candidate → List ℤ
values_of [] = []
values_of (x ∷ xs) = x.vector ++ values_of xs

abbrev pub models_of : List Candidate → List ℕ
models_of xs = map (λ x. x.model) xs

-- The runs with the points at their beginning, the rest as found.
abbrev pub values_left : List Candidate → List ℤ → List ℤ
values_left xs vs = values_of xs ++ drop (length xs * point_values) vs

abbrev pub models_left : List Candidate → List ℕ → List ℕ
models_left xs ms = models_of xs ++ drop (length xs) ms

-- What listing with room for r points leaves: the front's first r points in the runs, the rest as found. It answers how many points the front has, if these
-- are all of them.
pub record Lists (ts rs : List ℤ) (r : ℕ) (vs : List ℤ) (ms : List ℕ) (vs' : List ℤ) (ms' : List ℕ) (count : Option ℕ) : Type 0 where
  pub front : List Candidate
  pub is_front : FrontOf (meaning ts rs) front
  pub whole : (k : ℕ) → count ≡ Some k → (k ≡ length front) × (length front ≤ r)
  pub part : count ≡ None → r < length front
  pub values : vs' ≡ values_left (take r front) vs
  pub models : ms' ≡ models_left (take r front) ms

-- ---- what the code's smaller functions promise

-- The half rows of an instance with k objectives: with the costs of these they are its normal tables.
pub record HalfRows (ts rs : List ℤ) (k : ℕ) (rows : Rows) : Type 0 where
  pub is : IsInstance ts rs
  pub objectives : k ≡ objectives_in rs
  pub variables : rows.n ≡ (meaning ts rs).variables
  pub narrow : Narrow rows
  pub ordered : (costs : List Cost) → OrderedAll ts rs rows.n k costs → InOrder ts rs k rows costs
  pub normal : (costs : List Cost) → PricedAll ts rs rows.n k costs → Normal ts rs k rows costs
