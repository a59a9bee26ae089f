-- Vectors in the order of document 01, 'The front' (objective 1, then 2, and so on), weak dominance by listed trades, and caps.
use Rattle.std.specs.Prelude.{◌≡◌, ◌⊎◌, Option, Some, None, List, [], ℕ, zero, suc, ◌+◌, ◌≤◌, ◌<◌, length, get_or}
use Rattle.charging.specs.declared.parts.Part.{Part}
use Rattle.charging.specs.Rows.{of, Completes, cost, costs_of}
use Rattle.charging.specs.Meets.{Meets}
use Rattle.capping.specs.declared.trades.Trade.{Trade}
use Rattle.capping.specs.declared.problems.Problem.{Problem}

-- The vector of x: number i is its cost by objective i.
abbrev pub vec : {K : ℕ} → Problem K → (ℕ → ℕ) → ℕ → ℕ
vec problem x i = cost (costs_of problem.rows.n problem.costs.now i) x

-- f comes before g by the first of the m places from j on where they differ.
unfoldable pub less : ℕ → ℕ → (ℕ → ℕ) → (ℕ → ℕ) → Type 0
less zero j f g = ⊥
less (suc m) j f g = (f j < g j) ⊎ ((f j ≡ g j) × less m (j + 1) f g)

-- The numbers of a list by their places.
abbrev pub at : List ℕ → ℕ → ℕ
at l i = get_or l i 0

-- What stands past the end of a list of trades.
abbrev pub no_trade : {K : ℕ} → Trade K
no_trade = record { costs = []; model = 0 }

-- The vector of trade j, and its assignment.
abbrev pub row : {K : ℕ} → List (Trade K) → ℕ → ℕ → ℕ
row trades j = at (get_or trades j no_trade).costs

abbrev pub model : {K : ℕ} → List (Trade K) → ℕ → ℕ
model trades j = (get_or trades j no_trade).model

-- The first k places of f are at least those of lb.
abbrev pub Above : ℕ → List ℕ → (ℕ → ℕ) → Type 0
Above k lb f = (i : ℕ) → i < k → get_or lb i 0 ≤ f i

-- The first k places of f are at most those of cap.
abbrev pub Below : ℕ → List ℕ → (ℕ → ℕ) → Type 0
Below k cap f = (i : ℕ) → i < k → f i ≤ get_or cap i 0

-- f is at most h in each of the first k places: f weakly dominates h.
abbrev pub Within : ℕ → (ℕ → ℕ) → (ℕ → ℕ) → Type 0
Within k f h = (i : ℕ) → i < k → f i ≤ h i

-- None of the first m trades weakly dominates f.
abbrev pub Fresh : {K : ℕ} → ℕ → List (Trade K) → ℕ → (ℕ → ℕ) → Type 0
Fresh k trades m f = (q : ℕ) → q < m → Within k (row trades q) f → ⊥

-- f comes before the limit, if there is one.
abbrev pub Before : ℕ → Option (List ℕ) → (ℕ → ℕ) → Type 0
Before k limit f = (top : List ℕ) → limit ≡ Some top → less k 0 f (at top)

-- Before the limit, and weakly dominated by no listed trade and by none of the first c gathered ones.
pub record Sought {K : ℕ} (k : ℕ) (listed gathered : List (Trade K)) (c : ℕ) (limit : Option (List ℕ)) (f : ℕ → ℕ) : Type 0 where
  pub before : Before k limit f
  pub fresh : Fresh k listed (length listed) f
  pub new : Fresh k gathered c f

-- x meets the rows, and its vector is sought.
pub record Seeks {K : ℕ} (problem : Problem K) (listed gathered : List (Trade K)) (c : ℕ) (limit : Option (List ℕ)) (x : ℕ → ℕ) : Type 0 where
  pub meets : Meets problem.rows x
  pub sought : Sought problem.count listed gathered c limit (vec problem x)

-- What has Q between lb and cap is at most the caps that are answered too; where there are none, there is no such thing.
abbrev pub Tight : ℕ → List ℕ → List ℕ → ((ℕ → ℕ) → Type 0) → Option (List ℕ) → Type 0
Tight k lb cap Q (Some cap') = (f : ℕ → ℕ) → Above k lb f → Below k cap f → Q f → Below k cap' f
Tight k lb cap Q None = (f : ℕ → ℕ) → Above k lb f → Below k cap f → Q f → ⊥

-- Caps for what is wanted below p, or that there is none.
abbrev pub Capped : {K : ℕ} → Problem K → ((ℕ → ℕ) → Type 0) → Part → Option (List ℕ) → Type 0
Capped problem W p (Some cap) = (x : ℕ → ℕ) → Completes problem.rows.n (of p) x → W x → Below problem.count cap (vec problem x)
Capped problem W p None = (x : ℕ → ℕ) → Completes problem.rows.n (of p) x → W x → ⊥

-- lb is below the vector of every completion of p that meets the rows, in the first j places.
abbrev pub Low : {K : ℕ} → Problem K → ℕ → Part → List ℕ → Type 0
Low problem j p lb = (i : ℕ) → i < j → (x : ℕ → ℕ) → Completes problem.rows.n (of p) x → Meets problem.rows x → get_or lb i 0 ≤ vec problem x i
