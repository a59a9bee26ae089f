-- The stock that goes from one point to the next: gathered trades, each known by its assignment, that account for all that is fit.
use Rattle.std.specs.Prelude.{◌≡◌, Option, Some, None, List, ℕ, ◌≤◌, ◌<◌, length, get_or}
use Rattle.charging.specs.Rows.{bit}
use Rattle.capping.specs.declared.trades.Trade.{Trade}
use Rattle.capping.specs.declared.problems.Problem.{Problem}
use Rattle.capping.specs.Caps.{vec, at, no_trade, Fresh}
use Rattle.seeking.specs.declared.stocks.Stock.{Stock}
use Rattle.seeking.specs.Stocks.{Accounted, Among, Least}
use Rattle.seeking.specs.Gathers.{Fit, Known, Held}

-- Every assignment that meets the rows and is weakly dominated by no listed trade is accounted for by the gathered ones and the limit.
pub record Stocked {K : ℕ} (problem : Problem K) (listed points : List (Trade K)) (stock : Stock K) : Type 0 where
  pub held : Held (Known problem) problem.count points stock
  pub all : (x : ℕ) → Fit problem listed (bit x) → Accounted problem.count points stock (vec problem (bit x))

-- What taking out trades leaves: trades of the stock, and what dominated something fresh of the listed ones.
pub record Sifted {K : ℕ} (k : ℕ) (listed points : List (Trade K)) (c : ℕ) (points' : List (Trade K)) (c' : ℕ) : Type 0 where
  pub fewer : c' ≤ c
  pub came : (u : ℕ) → u < c' → Among points c (get_or points' u no_trade)
  pub kept : (h : ℕ → ℕ) → Fresh k listed (length listed) h → Fresh k points' c' h → Fresh k points c h

-- The trade is a least of the first c, and no listed one weakly dominates it.
pub record Pick {K : ℕ} (k : ℕ) (listed points : List (Trade K)) (c : ℕ) (trade : Trade K) : Type 0 where
  pub place : ℕ
  pub inside : place < c
  pub here : trade ≡ get_or points place no_trade
  pub least : Least k points c place
  pub fresh : Fresh k listed (length listed) (at trade.costs)

-- The same, or that there are none.
abbrev pub Chosen : {K : ℕ} → ℕ → List (Trade K) → List (Trade K) → ℕ → Option (Trade K) → Type 0
Chosen k listed points c (Some trade) = Pick k listed points c trade
Chosen k listed points c None = c ≡ 0

-- The same of a stock, where none is chosen only if nothing is fit.
pub record Ready {K : ℕ} (problem : Problem K) (listed points : List (Trade K)) (stock : Stock K) (next : Option (Trade K)) : Type 0 where
  pub stocked : Stocked problem listed points stock
  pub none : next ≡ None → (x : ℕ) → Fit problem listed (bit x) → ⊥
  pub chosen : Chosen problem.count listed points stock.count next
