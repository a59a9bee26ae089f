-- Half rows as objectives with a cap (rule R7): where a half row must reach most of its weight, what its terms withhold is small.
use Rattle.std.specs.Prelude.{◌≡◌, Option, None, Some, List, ℕ, ◌+◌, ◌*◌, ◌≤◌, ◌<◌, length, get_or}
use Rattle.charging.specs.declared.rows.Term.{Term}
use Rattle.charging.specs.declared.rows.Cost.{Cost}
use Rattle.charging.specs.declared.rows.Rows.{Rows}
use Rattle.charging.specs.Rows.{hit, span, variable, side, weight, cost, Costs, costs_of}
use Rattle.charging.specs.Meets.{terms_of, Meets}
use Rattle.instance.specs.Limits.{max_coef, max_terms}
use Rattle.normal.specs.declared.costs.Sides.{Sides}
use Rattle.normal.specs.Costs.{side_of, sides_of}

-- x is a complete assignment of n variables.
abbrev pub Bits : ℕ → (ℕ → ℕ) → Type 0
Bits n x = (v : ℕ) → v < n → x v < 2

-- No row has more terms than an instance gives, and no weight is more than a coefficient.
pub record Narrow (rows : Rows) : Type 0 where
  pub few : length rows.terms.now ≤ max_terms + max_terms
  pub small : (k : ℕ) → k < length rows.terms.now → weight rows.terms.now k ≤ max_coef

-- What the first k terms withhold: the weights of those that stand at the side where they give nothing.
abbrev pub withheld : List Term → (ℕ → ℕ) → ℕ → ℕ
withheld terms x k = span (λ (j : ℕ). hit (x (variable terms j)) (side terms j) (weight terms j)) 0 k

-- The weights of the first k terms.
abbrev pub weights_in : List Term → ℕ → ℕ
weights_in terms k = span (weight terms) 0 k

-- What the first k terms withhold is added to the sides.
pub record Piled (n : ℕ) (terms : List Term) (k : ℕ) (sides₀ sides : List Sides) : Type 0 where
  pub same : length sides ≡ length sides₀
  pub sums : (x : ℕ → ℕ) → Bits n x → sides_of n sides x ≡ sides_of n sides₀ x + withheld terms x k
  pub small : (v b : ℕ) → side_of sides v b ≤ side_of sides₀ v b + k * max_coef

-- What half row h withholds is added to the sides; where the rows are met that is r at most.
pub record Heaps (rows : Rows) (h : ℕ) (sides₀ sides : List Sides) (r : ℕ) : Type 0 where
  pub same : length sides ≡ length sides₀
  pub bound : (x : ℕ → ℕ) → Bits rows.n x → Meets rows x → sides_of rows.n sides x ≤ sides_of rows.n sides₀ x + r
  pub small : (v b : ℕ) → side_of sides v b ≤ side_of sides₀ v b + length (terms_of rows h) * max_coef
  pub low : r ≤ length (terms_of rows h) * max_coef

-- What meets the rows has at most `slack` of the sides, to which `most` terms were added at most.
pub record Heap (rows : Rows) (sides : List Sides) (slack most : ℕ) : Type 0 where
  pub bound : (x : ℕ → ℕ) → Bits rows.n x → Meets rows x → sides_of rows.n sides x ≤ slack
  pub small : (v b : ℕ) → side_of sides v b ≤ most * max_coef
  pub low : slack ≤ most * max_coef

-- What meets the rows costs at most the cap.
pub record Ceiling (rows : Rows) (costs : List Cost) (cap : ℕ) : Type 0 where
  pub are : Costs rows.n costs
  pub bound : (x : ℕ → ℕ) → Bits rows.n x → Meets rows x → cost costs x ≤ cap

-- The costs are a ceiling, if there is a cap.
abbrev pub CeilingIf : Rows → List Cost → Option ℕ → Type 0
CeilingIf rows costs None = length costs ≡ rows.n
CeilingIf rows costs (Some cap) = Ceiling rows costs cap

-- The first `count` ceilings are laid out, the costs of each one after the other.
pub record CeilingAll (rows : Rows) (count : ℕ) (costs : List Cost) (caps : List ℕ) : Type 0 where
  pub each : (i : ℕ) → i < count → Ceiling rows (costs_of rows.n costs i) (get_or caps i 0)
