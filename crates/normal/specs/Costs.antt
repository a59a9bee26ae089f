-- Objectives in natural numbers: what each variable costs on each side, and then on its dear side alone.
use Rattle.std.specs.Prelude.{◌≡◌, false, cond, List, ℕ, ◌+◌, ◌-◌, ◌*◌, ◌≤◌, ◌<◌, min, eqb, ltb, ℤ, length, get_or, ◌≤ℤ◌}
use Rattle.charging.specs.declared.rows.Cost.{Cost}
use Rattle.charging.specs.Rows.{no_cost, span, bit, gap, cost, Costs, costs_of}
use Rattle.instance.specs.Limits.{max_coef, max_bound}
use Rattle.instance.specs.Terms.{sum}
use Rattle.instance.specs.Meaning.{entry_at}
use Rattle.normal.specs.declared.costs.Sides.{Sides}
use Rattle.normal.specs.Halves.{gives_all}
use Rattle.normal.specs.Rows.{halves_at}

-- What stands past the end of a list of sides.
abbrev pub no_sides : Sides
no_sides = record { zero = 0; one = 0 }

-- One side: where the variable is 0, or else where it is 1.
abbrev pub at_side : Sides → ℕ → ℕ
at_side s b = cond (eqb b 0) s.zero s.one

abbrev pub side_of : List Sides → ℕ → ℕ → ℕ
side_of sides v b = at_side (get_or sides v no_sides) b

-- m more at one side.
abbrev pub more_at : Sides → ℕ → ℕ → Sides
more_at s b m = record { zero = s.zero + cond (eqb b 0) m 0; one = s.one + cond (eqb b 0) 0 m }

-- What the sides of the n variables come to under an assignment.
abbrev pub sides_of : ℕ → List Sides → (ℕ → ℕ) → ℕ
sides_of n sides x = span (λ (v : ℕ). side_of sides v (x v)) 0 n

abbrev pub sides_sum : ℕ → List Sides → ℕ → ℕ
sides_sum n sides a = sides_of n sides (bit a)

-- What every assignment comes to at least.
abbrev pub base_of : ℕ → List Sides → ℕ
base_of n sides = span (λ (v : ℕ). min (side_of sides v 0) (side_of sides v 1)) 0 n

-- The sides hold the terms: under each assignment they come to what the terms give; none is large.
pub record Spread (ts : List ℤ) (first k n : ℕ) (sides : List Sides) : Type 0 where
  pub sums : (a : ℕ) → sides_sum n sides a ≡ gives_all (halves_at ts first k false) a
  pub small : (v b : ℕ) → side_of sides v b ≤ k * max_coef

-- What a variable costs on its dear side more than on the other, and which side is dear: 1 if that costs more.
abbrev pub gap_of : ℕ → ℕ → ℕ
gap_of zero-side one_side = cond (ltb zero-side one_side) (one_side - zero-side) (zero-side - one_side)

abbrev pub dear_of : ℕ → ℕ → ℕ
dear_of zero-side one_side = cond (ltb zero-side one_side) 1 0

-- A variable's cost by what its sides cost.
abbrev pub cost_of : Sides → Cost
cost_of s = record { gap = gap_of s.zero s.one; dear = dear_of s.zero s.one }

-- The n variables have the costs of the run of sides.
pub record Settled (n : ℕ) (sides : List Sides) (costs : List Cost) : Type 0 where
  pub long : length costs ≡ n
  pub each : (v : ℕ) → v < n → get_or costs v no_cost ≡ cost_of (get_or sides v no_sides)

-- The value of objective i, counted from 0.
abbrev pub value_of : List ℤ → List ℤ → ℕ → ℕ → ℤ
value_of ts rs i a = sum (entry_at ts rs i).terms a

-- Objective i is in order: its costs have the order of its values.
pub record Ordered (ts rs : List ℤ) (n i : ℕ) (costs : List Cost) : Type 0 where
  pub are : Costs n costs
  pub cost_le : (a b : ℕ) → value_of ts rs i a ≤ℤ value_of ts rs i b → cost costs (bit a) ≤ cost costs (bit b)
  pub value_le : (a b : ℕ) → cost costs (bit a) ≤ cost costs (bit b) → value_of ts rs i a ≤ℤ value_of ts rs i b

-- The first `count` objectives are in order, the n costs of each one after the other.
pub record OrderedAll (ts rs : List ℤ) (n count : ℕ) (costs : List Cost) : Type 0 where
  pub long : count * n ≤ length costs
  pub each : (i : ℕ) → i < count → Ordered ts rs n i (costs_of n costs i)

-- Objective i is laid out: its costs have the order of its values, and none is above what a value can be.
pub record Priced (ts rs : List ℤ) (n i : ℕ) (costs : List Cost) : Type 0 where
  pub are : Costs n costs
  pub small : (v : ℕ) → v < n → gap costs v ≤ max_bound
  pub cost_le : (a b : ℕ) → value_of ts rs i a ≤ℤ value_of ts rs i b → cost costs (bit a) ≤ cost costs (bit b)
  pub value_le : (a b : ℕ) → cost costs (bit a) ≤ cost costs (bit b) → value_of ts rs i a ≤ℤ value_of ts rs i b

-- The first `count` objectives are laid out, the n costs of each one after the other.
pub record PricedAll (ts rs : List ℤ) (n count : ℕ) (costs : List Cost) : Type 0 where
  pub long : count * n ≤ length costs
  pub each : (i : ℕ) → i < count → Priced ts rs n i (costs_of n costs i)
