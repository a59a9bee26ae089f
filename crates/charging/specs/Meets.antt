-- Rows as one value, what meets them, and what charging promises.
use Rattle.std.specs.Prelude.{List, ℕ, ◌+◌, ◌^◌, ◌≤◌, ◌<◌, length, get_or, slice_range}
use Rattle.charging.specs.declared.rows.Term.{Term}
use Rattle.charging.specs.declared.rows.Cost.{Cost}
use Rattle.charging.specs.declared.rows.Rows.{Rows}
use Rattle.charging.specs.Rows.{Completes, given, cost, rest, costs_of, Objectives}

-- How many rows there are, what row h needs, and its terms.
abbrev pub count : Rows → ℕ
count rows = length rows.needs.now

abbrev pub need : Rows → ℕ → ℕ
need rows h = get_or rows.needs.now h 0

abbrev pub terms_of : Rows → ℕ → List Term
terms_of rows h = slice_range rows.terms.now (get_or rows.starts.now h 0) (get_or rows.starts.now (h + 1) 0)

-- The left side of row h.
abbrev pub left : Rows → (ℕ → ℕ) → ℕ → ℕ
left rows y h = given (terms_of rows h) y

-- x meets every row.
abbrev pub Meets : Rows → (ℕ → ℕ) → Type 0
Meets rows x = (h : ℕ) → h < count rows → need rows h ≤ left rows x h

-- The number b, with what is left to charge, bounds the cost of every completion that meets the rows.
pub record Charged (rows : Rows) (costs : List Cost) (val : ℕ → ℕ) (b : ℕ) (res : List ℕ) : Type 0 where
  pub bound : (x : ℕ → ℕ) → Completes rows.n val x → Meets rows x → b + rest res costs x ≤ cost costs x

-- r is charged, and what is left to charge falls by as much at least, for every completion that meets the rows.
pub record Step (rows : Rows) (costs : List Cost) (val : ℕ → ℕ) (res res' : List ℕ) (r : ℕ) : Type 0 where
  pub low : r ≤ 2 ^ 34
  pub falls : (x : ℕ → ℕ) → Completes rows.n val x → Meets rows x → rest res' costs x + r ≤ rest res costs x

-- What meets the rows costs at most its cap by each of the ceilings, one for each cap (rule R7).
pub record Ceiled (rows : Rows) (costs : List Cost) (caps : List ℕ) : Type 0 where
  pub each : Objectives rows.n (length caps) costs
  pub bound : (i : ℕ) → i < length caps → (x : ℕ → ℕ) → ((v : ℕ) → v < rows.n → x v < 2) → Meets rows x → cost (costs_of rows.n costs i) x ≤ get_or caps i 0
