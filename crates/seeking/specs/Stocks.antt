-- Stocks of gathered trades: the first ones of a run, in any order, and maybe a limit.
use Rattle.std.specs.Prelude.{◌≡◌, ◌⊎◌, Option, Some, None, List, ℕ, ◌≤◌, ◌<◌, length, get_or}
use Rattle.capping.specs.declared.trades.Trade.{Trade}
use Rattle.capping.specs.Caps.{less, at, row, no_trade, Within, Fresh}
use Rattle.seeking.specs.declared.stocks.Stock.{Stock}

-- f and h have the same first k places.
abbrev pub Same : ℕ → (ℕ → ℕ) → (ℕ → ℕ) → Type 0
Same k f h = (i : ℕ) → i < k → f i ≡ h i

-- There is a limit, and f does not come before it.
pub record Past (k : ℕ) (limit : Option (List ℕ)) (f : ℕ → ℕ) : Type 0 where
  pub top : List ℕ
  pub is : limit ≡ Some top
  pub behind : less k 0 f (at top) → ⊥

-- f is accounted for: a gathered trade weakly dominates it, or it does not come before the limit.
abbrev pub Accounted : {K : ℕ} → ℕ → List (Trade K) → Stock K → (ℕ → ℕ) → Type 0
Accounted k points stock f = Fresh k points stock.count f → Past k stock.limit f

-- No gathered trade comes after the limit.
abbrev pub Limited : {K : ℕ} → ℕ → List (Trade K) → Stock K → Type 0
Limited k points stock = (top : List ℕ) → stock.limit ≡ Some top → (j : ℕ) → j < stock.count → less k 0 (at top) (row points j) → ⊥

-- A limit comes only where a trade is gathered.
abbrev pub Backed : {K : ℕ} → Stock K → Type 0
Backed stock = (top : List ℕ) → stock.limit ≡ Some top → 1 ≤ stock.count

-- One of the first c trades.
pub record Among {K : ℕ} (points : List (Trade K)) (c : ℕ) (trade : Trade K) : Type 0 where
  pub place : ℕ
  pub inside : place < c
  pub here : trade ≡ get_or points place no_trade

-- The trade j is a least of the first c.
abbrev pub Least : {K : ℕ} → ℕ → List (Trade K) → ℕ → ℕ → Type 0
Least k points c j = (u : ℕ) → u < c → less k 0 (row points u) (row points j) → ⊥

-- The trade j is a greatest of the first c.
abbrev pub Greatest : {K : ℕ} → ℕ → List (Trade K) → ℕ → ℕ → Type 0
Greatest k points c j = (u : ℕ) → u < c → less k 0 (row points j) (row points u) → ⊥

-- A trade that f weakly dominates, if one is answered.
abbrev pub Worse : {K : ℕ} → ℕ → (ℕ → ℕ) → List (Trade K) → Option ℕ → Type 0
Worse k f points (Some j) = (j < length points) × Within k f (row points j)
Worse k f points None = Unit {0}

-- What keeping a trade does to a stock: its trades are old ones and the new one, what that weakly dominates is accounted for, and what was stays so.
pub record Keeps {K : ℕ} (k : ℕ) (trade : Trade K)
    (points : List (Trade K)) (stock : Stock K) (points' : List (Trade K)) (stock' : Stock K) : Type 0 where
  pub room : stock'.count ≤ length points'
  pub came : (u : ℕ) → u < stock'.count → (get_or points' u no_trade ≡ trade) ⊎ Among points stock.count (get_or points' u no_trade)
  pub limited : Limited k points' stock'
  pub some : Backed stock → Backed stock'
  pub new : (h : ℕ → ℕ) → Within k (at trade.costs) h → Accounted k points' stock' h
  pub kept : (h : ℕ → ℕ) → Accounted k points stock h → Accounted k points' stock' h
