-- What writing text answers at the C boundary.
use Rattle.std.specs.Prelude.{◌≡◌, Result, List, ℕ, ℤ}
use Rattle.writing.specs.declared.errors.WriteError.{WriteError}
use Rattle.writing.specs.Answers.{written_number, written_value, WrittenAs}
use Rattle.basilurn.specs.Words.{packed}

-- What writing text answers as one number: that of an answer that writing allows.
pub record PackedWritten (ts rs : List ℤ) (found left : List ℕ) (r : ℕ) : Type 0 where
  pub answer : Result ℕ WriteError
  pub allowed : WrittenAs ts rs found left answer
  pub word : r ≡ packed (written_number answer) (written_value answer)
