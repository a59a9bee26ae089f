-- Document 01, 'Refusal numbers' and 'Orders': what listing answers, and what it leaves.
use Rattle.std.specs.Prelude.{◌≡◌, List, ℕ, ◌≤◌, ◌<◌, ℤ, length, take, Result, Ok, Err}
use Rattle.instance.specs.Tables.{IsInstance}
use Rattle.instance.specs.Meaning.{meaning}
use Rattle.points.specs.Fronts.{Candidate}
use Rattle.front.specs.Listing.{FrontOf, room, values_left, models_left}
use Rattle.front.specs.Refusals.{refusal_number, refusal_value}
use Rattle.refusals.specs.Numbers.{number_of, value_of}
use Rattle.front.specs.declared.errors.ListError.{ListError}
use Rattle.front.specs.declared.errors.ListError.TheVariants.{NotInstance, Larger}

-- The number of each answer: 0 for done.
abbrev pub listed_number : Result ℕ ListError → ℕ
listed_number r = number_of refusal_number r

-- The value of each answer: the number of points, or the room that they do not fit into, or 0.
abbrev pub listed_value : Result ℕ ListError → ℕ
listed_value r = value_of (λ k. k) refusal_value r

module _ (ts rs vs : List ℤ) (ms : List ℕ) (vs' : List ℤ) (ms' : List ℕ) (number value : ℕ) where
  -- 0: the tables are an instance, and its front fits into the room; the runs begin with its points, and the value is their number.
  pub record ListedAll : Type 0 where
    pub numbered : number ≡ 0
    pub is : IsInstance ts rs
    pub front : List Candidate
    pub is_front : FrontOf (meaning ts rs) front
    pub fits : length front ≤ room vs ms
    pub count : value ≡ length front
    pub values : vs' ≡ values_left front vs
    pub models : ms' ≡ models_left front ms

  -- 11: the tables are an instance, and its front has more points than the room R; the runs begin with the first R of them, and the value is R.
  pub record ListedFirst : Type 0 where
    pub numbered : number ≡ 11
    pub is : IsInstance ts rs
    pub front : List Candidate
    pub is_front : FrontOf (meaning ts rs) front
    pub larger : room vs ms < length front
    pub count : value ≡ room vs ms
    pub values : vs' ≡ values_left (take (room vs ms) front) vs
    pub models : ms' ≡ models_left (take (room vs ms) front) ms

  -- 10: the tables are not an instance; both runs are as found.
  pub record RefusedTables : Type 0 where
    pub numbered : number ≡ 10
    pub none : value ≡ 0
    pub is_not : IsInstance ts rs → ⊥
    pub values : vs' ≡ vs
    pub models : ms' ≡ ms

-- What listing answers, and what it leaves of the runs found: each case exactly where the document has it.
abbrev pub ListedAs : List ℤ → List ℤ → List ℤ → List ℕ → List ℤ → List ℕ → Result ℕ ListError → Type 0
ListedAs ts rs vs ms vs' ms' (Ok k) = ListedAll ts rs vs ms vs' ms' (listed_number (Ok k)) (listed_value (Ok k))
ListedAs ts rs vs ms vs' ms' (Err NotInstance) = RefusedTables ts rs vs ms vs' ms' (listed_number (Err NotInstance)) (listed_value (Err NotInstance))
ListedAs ts rs vs ms vs' ms' (Err (Larger r)) = ListedFirst ts rs vs ms vs' ms' (listed_number (Err (Larger r))) (listed_value (Err (Larger r)))
