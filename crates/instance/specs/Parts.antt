-- Document 01, 'Instance tables': the parts that the check of tables goes by. Together they are IsInstance of Tables.
use Rattle.std.specs.Prelude.{◌≡◌, List, ℕ, ◌-◌, ◌≤◌, ◌<◌, ℤ, pos, nat_abs, Option, Some, None}
use Rattle.instance.specs.Limits.{max_terms, max_bound}
use Rattle.instance.specs.Terms.{TermOk, highest}
use Rattle.instance.specs.Tables.{term_at, first_at, count_at, bound_at, terms_before, EntryOk}
use Rattle.instance.specs.Meaning.{terms_at}
use Rattle.instance.specs.Tests.{UpTo}

-- The first n terms are in range.
abbrev pub TermsOk : List ℤ → ℕ → Type 0
TermsOk ts n = (k : ℕ) → k < n → TermOk (term_at ts k)

-- The first n terms are in range and v is the highest variable that they name; or one is not in range.
abbrev pub NamedIn : List ℤ → ℕ → Option ℕ → Type 0
NamedIn ts n (Some v) = TermsOk ts n × (v ≡ highest (terms_at ts 0 n))
NamedIn ts n None = TermsOk ts n → ⊥

-- Entry k is as it should be where `total` terms come before it, and with its own they are at most 4,096.
pub record EntryPlaced (rs : List ℤ) (k total : ℕ) : Type 0 where
  pub first : first_at rs k ≡ pos total
  pub count : UpTo (max_terms - total) (count_at rs k)
  pub bound : nat_abs (bound_at rs k) ≤ max_bound

-- The first n entries are as they should be, and their counts come to at most 4,096.
pub record EntriesOk (rs : List ℤ) (n : ℕ) : Type 0 where
  pub used : (k : ℕ) → k < n → EntryOk rs k
  pub few_terms : terms_before rs n ≤ max_terms

-- The first n entries are as they should be and t is their total; or they are not.
abbrev pub TotalOf : List ℤ → ℕ → Option ℕ → Type 0
TotalOf rs n (Some t) = EntriesOk rs n × (t ≡ terms_before rs n)
TotalOf rs n None = EntriesOk rs n → ⊥

-- The bounds of the first n entries are 0.
abbrev pub NoBounds : List ℤ → ℕ → Type 0
NoBounds rs n = (k : ℕ) → k < n → bound_at rs k ≡ pos 0
