-- What listing answers at the C boundary.
use Rattle.std.specs.Prelude.{◌≡◌, Result, List, ℕ, ℤ}
use Rattle.front.specs.declared.errors.ListError.{ListError}
use Rattle.front.specs.Answers.{listed_number, listed_value, ListedAs}
use Rattle.basilurn.specs.Words.{packed}

-- What listing answers as one number: that of an answer that listing allows.
pub record PackedListed (ts rs vs : List ℤ) (ms : List ℕ) (vs' : List ℤ) (ms' : List ℕ) (r : ℕ) : Type 0 where
  pub answer : Result ℕ ListError
  pub allowed : ListedAs ts rs vs ms vs' ms' answer
  pub word : r ≡ packed (listed_number answer) (listed_value answer)
