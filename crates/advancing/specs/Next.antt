-- Document 01, 'The front': the point that comes next in the list, over normal tables. An assignment is a number, bit v of it the variable v.
use Rattle.std.specs.Prelude.{Option, Some, None, List, ℕ, ◌^◌, ◌≤◌, ◌<◌}
use Rattle.charging.specs.Rows.{bit}
use Rattle.charging.specs.Meets.{Meets}
use Rattle.capping.specs.declared.trades.Trade.{Trade}
use Rattle.capping.specs.declared.problems.Problem.{Problem}
use Rattle.capping.specs.Caps.{vec, less, at, Below}
use Rattle.seeking.specs.Stocks.{Same}
use Rattle.seeking.specs.Gathers.{Fit}

-- x meets the rows, and costs at most `costs` by each objective.
pub record AtMost {K : ℕ} (problem : Problem K) (costs : List ℕ) (x : ℕ → ℕ) : Type 0 where
  pub meets : Meets problem.rows x
  pub below : Below problem.count costs (vec problem x)

-- The trade's vector is the least, first objective first, among those of assignments that meet the rows and are weakly dominated by no listed
-- trade, and its number is the smallest of an assignment that meets the rows and has exactly that vector.
pub record IsNext {K : ℕ} (problem : Problem K) (listed : List (Trade K)) (trade : Trade K) : Type 0 where
  pub fits : trade.model < 2 ^ problem.rows.n
  pub fit : Fit problem listed (bit trade.model)
  pub value : Same problem.count (vec problem (bit trade.model)) (at trade.costs)
  pub least : (x : ℕ) → x < 2 ^ problem.rows.n → Fit problem listed (bit x) → less problem.count 0 (vec problem (bit x)) (at trade.costs) → ⊥
  pub first : (x : ℕ) → x < 2 ^ problem.rows.n → Meets problem.rows (bit x) → Same problem.count (vec problem (bit x)) (at trade.costs) → trade.model ≤ x

-- No assignment meets the rows and is weakly dominated by no listed trade.
abbrev pub Ended : {K : ℕ} → Problem K → List (Trade K) → Type 0
Ended problem listed = (x : ℕ) → x < 2 ^ problem.rows.n → Fit problem listed (bit x) → ⊥

-- The next trade, or that there is none.
abbrev pub Next : {K : ℕ} → Problem K → List (Trade K) → Option (Trade K) → Type 0
Next problem listed (Some trade) = IsNext problem listed trade
Next problem listed None = Ended problem listed
