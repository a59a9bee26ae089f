-- Normal tables: rows as sums of unsigned terms that need at least a number, objectives as sums of unsigned costs; and what charging one row promises.
-- A complete assignment is x : ℕ → ℕ, each x v below 2. A partial one is y : ℕ → ℕ, where y v is 2 if the variable v is unset.
use Rattle.std.specs.Prelude.{◌≡◌, Bool, true, false, List, ℕ, zero, suc, ◌+◌, ◌-◌, ◌*◌, ◌/◌, ◌%◌, ◌^◌, ◌≤◌, ◌<◌, eqb, length, get_or, slice_range}
use Rattle.charging.specs.declared.rows.Term.{Term}
use Rattle.charging.specs.declared.rows.Cost.{Cost}
use Rattle.charging.specs.declared.parts.Part.{Part}

-- a where the test is true, else b.
abbrev pub pick : Bool → ℕ → ℕ → ℕ
pick true a b = a
pick false a b = b

-- w where a is b, else 0.
unfoldable pub hit : ℕ → ℕ → ℕ → ℕ
hit a b w = pick (eqb a b) w 0

-- 0 where a is b, else w.
unfoldable pub miss : ℕ → ℕ → ℕ → ℕ
miss a b w = pick (eqb a b) 0 w

-- f a + f (a + 1) + .. : n terms.
unfoldable pub span : (ℕ → ℕ) → ℕ → ℕ → ℕ
span f a zero = 0
span f a (suc n) = span f a n + f (a + n)

-- The term that gives nothing, and the cost of nothing: what stands past the end of a list.
abbrev pub no_term : Term
no_term = record { weight = 0; variable = 0; off = 0 }

abbrev pub no_cost : Cost
no_cost = record { gap = 0; dear = 0 }

-- Term k: its variable, the side where it gives nothing, and what it gives on the other.
abbrev pub variable : List Term → ℕ → ℕ
variable terms k = (get_or terms k no_term).variable

abbrev pub side : List Term → ℕ → ℕ
side terms k = (get_or terms k no_term).off

abbrev pub weight : List Term → ℕ → ℕ
weight terms k = (get_or terms k no_term).weight

-- What the variable v costs, and on which side.
abbrev pub gap : List Cost → ℕ → ℕ
gap costs v = (get_or costs v no_cost).gap

abbrev pub dear : List Cost → ℕ → ℕ
dear costs v = (get_or costs v no_cost).dear

-- Terms of n variables.
pub record Terms (n : ℕ) (terms : List Term) : Type 0 where
  pub vars : (k : ℕ) → k < length terms → variable terms k < n
  pub sides : (k : ℕ) → k < length terms → side terms k < 2
  pub small : (k : ℕ) → k < length terms → weight terms k ≤ 2 ^ 34
  pub few : n ≤ 64
  pub short : length terms ≤ 2 ^ 24

-- The half rows: row h has the terms from start[h] to start[h + 1].
pub record Table (n : ℕ) (start : List ℕ) (terms : List Term) (need : List ℕ) : Type 0 where
  pub every : Terms n terms
  pub starts : length start ≡ length need + 1
  pub rising : (h : ℕ) → h < length need → get_or start h 0 ≤ get_or start (h + 1) 0
  pub inside : (h : ℕ) → h < length need → get_or start (h + 1) 0 ≤ length terms
  pub rows : length need ≤ 2 ^ 16

-- What term k gives under y, an assignment or a partial one.
abbrev pub term : List Term → (ℕ → ℕ) → ℕ → ℕ
term terms y k = miss (y (variable terms k)) (side terms k) (weight terms k)

-- What the terms of a row give.
abbrev pub given : List Term → (ℕ → ℕ) → ℕ
given terms y = span (term terms y) 0 (length terms)

-- Bit v of a.
unfoldable pub bit : ℕ → ℕ → ℕ
bit a zero = a % 2
bit a (suc v) = bit (a / 2) v

-- The partial assignment of two words: set has the variables that are set, one those at 1.
unfoldable pub seen : ℕ → ℕ → ℕ → ℕ
seen set one v = pick (eqb (bit set v) 0) 2 (bit one v)

-- How a part's variables stand.
abbrev pub of : Part → ℕ → ℕ
of p = seen p.set p.one

-- x is a complete assignment that agrees with val where val is set.
pub record Completes (n : ℕ) (val : ℕ → ℕ) (x : ℕ → ℕ) : Type 0 where
  pub bits : (v : ℕ) → v < n → x v < 2
  pub agrees : (v : ℕ) → v < n → (val v ≡ 2 → ⊥) → x v ≡ val v

-- An objective: the sum of the gaps of the variables on their dear side.
abbrev pub cost : List Cost → (ℕ → ℕ) → ℕ
cost costs x = span (λ (v : ℕ). hit (x v) (dear costs v) (gap costs v)) 0 (length costs)

-- What is left to charge: the sum of res over the variables on their dear side.
abbrev pub rest : List ℕ → List Cost → (ℕ → ℕ) → ℕ
rest res costs x = span (λ (v : ℕ). hit (x v) (dear costs v) (get_or res v 0)) 0 (length costs)

-- A term that needs no charge and can help: what it can give.
unfoldable pub spare : ℕ → ℕ → ℕ → ℕ → ℕ → ℕ
spare y off dear r w = pick (eqb y off) 0 (pick (eqb dear off) w (pick (eqb r 0) w 0))

-- What term k can give without a charge.
abbrev pub spare_at : List Term → (ℕ → ℕ) → List Cost → List ℕ → ℕ → ℕ
spare_at terms val costs res k = spare (val (variable terms k)) (side terms k) (dear costs (variable terms k)) (get_or res (variable terms k) 0) (weight terms k)

-- What paying m on a row does to what is left to charge, over its first j terms.
pub record Paid (n : ℕ) (terms : List Term) (costs : List Cost) (j m : ℕ) (res res' : List ℕ) : Type 0 where
  pub down : (v : ℕ) → v < n → get_or res' v 0 ≤ get_or res v 0
  pub each : (k : ℕ) → k < j → (dear costs (variable terms k) ≡ side terms k → ⊥) → get_or res' (variable terms k) 0 ≤ get_or res (variable terms k) 0 - m

-- At most what is left to charge at each of the first j terms that can be charged.
abbrev pub Least : List Term → List Cost → List ℕ → ℕ → ℕ → Type 0
Least terms costs res j m = (k : ℕ) → k < j → (dear costs (variable terms k) ≡ side terms k → ⊥)
    → (get_or res (variable terms k) 0 ≡ 0 → ⊥) → m ≤ get_or res (variable terms k) 0

-- An objective's costs, one for each of n variables.
pub record Costs (n : ℕ) (costs : List Cost) : Type 0 where
  pub long : length costs ≡ n
  pub small : (v : ℕ) → v < n → gap costs v ≤ 2 ^ 34
  pub two : (v : ℕ) → v < n → dear costs v < 2

-- The costs of objective i, where objectives of n variables stand one after the other.
abbrev pub costs_of : ℕ → List Cost → ℕ → List Cost
costs_of n costs i = slice_range costs (i * n) (i * n + n)

-- Objectives of n variables, k of them.
pub record Objectives (n k : ℕ) (costs : List Cost) : Type 0 where
  pub long : (i : ℕ) → i < k → i * n + n ≤ length costs
  pub each : (i : ℕ) → i < k → Costs n (costs_of n costs i)

-- All of an unset variable's cost is left to charge, and nothing of a set one's: the first j variables.
pub record Owed (j : ℕ) (val : ℕ → ℕ) (costs : List Cost) (res : List ℕ) : Type 0 where
  pub open' : (v : ℕ) → v < j → val v ≡ 2 → get_or res v 0 ≡ gap costs v
  pub shut : (v : ℕ) → v < j → (val v ≡ 2 → ⊥) → get_or res v 0 ≡ 0
