-- What is fit, and what gathering below a part promises.
use Rattle.std.specs.Prelude.{List, ℕ, ◌^◌, ◌≤◌, ◌<◌, length, get_or}
use Rattle.charging.specs.declared.parts.Part.{Part}
use Rattle.charging.specs.Rows.{bit, of, Completes}
use Rattle.charging.specs.Meets.{Meets}
use Rattle.capping.specs.declared.trades.Trade.{Trade}
use Rattle.capping.specs.declared.problems.Problem.{Problem}
use Rattle.capping.specs.Caps.{vec, at, no_trade, Fresh}
use Rattle.seeking.specs.declared.stocks.Stock.{Stock}
use Rattle.seeking.specs.Stocks.{Same, Accounted, Limited, Backed}

-- Feasible, and dominated by no listed trade.
pub record Fit {K : ℕ} (problem : Problem K) (listed : List (Trade K)) (x : ℕ → ℕ) : Type 0 where
  pub meets : Meets problem.rows x
  pub fresh : Fresh problem.count listed (length listed) (vec problem x)

-- The trade's assignment meets the rows, and has its vector.
pub record Known {K : ℕ} (problem : Problem K) (trade : Trade K) : Type 0 where
  pub fits : trade.model < 2 ^ problem.rows.n
  pub meets : Meets problem.rows (bit trade.model)
  pub value : Same problem.count (at trade.costs) (vec problem (bit trade.model))

-- The same, and no listed trade weakly dominates it.
pub record Found {K : ℕ} (problem : Problem K) (listed : List (Trade K)) (trade : Trade K) : Type 0 where
  pub known : Known problem trade
  pub fresh : Fresh problem.count listed (length listed) (at trade.costs)

-- A stock whose trades have P, and no trade of it is after the limit.
pub record Held {K : ℕ} (P : Trade K → Type 0) (k : ℕ) (points : List (Trade K)) (stock : Stock K) : Type 0 where
  pub room : stock.count ≤ length points
  pub each : (j : ℕ) → j < stock.count → P (get_or points j no_trade)
  pub limited : Limited k points stock

-- What gathering below p leaves: all that is fit below p is accounted for, and so is what was before.
pub record Gathers {K : ℕ} (problem : Problem K) (listed : List (Trade K)) (p : Part)
    (points : List (Trade K)) (stock : Stock K) (points' : List (Trade K)) (stock' : Stock K) : Type 0 where
  pub held : Held (Found problem listed) problem.count points' stock'
  pub some : Backed stock → Backed stock'
  pub all : (x : ℕ → ℕ) → Completes problem.rows.n (of p) x → Fit problem listed x → Accounted problem.count points' stock' (vec problem x)
  pub kept : (h : ℕ → ℕ) → Accounted problem.count points stock h → Accounted problem.count points' stock' h
