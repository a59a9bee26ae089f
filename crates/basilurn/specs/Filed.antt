-- What writing and reading a front file answer at the C boundary.
use Rattle.std.specs.Prelude.{◌≡◌, Result, List, [], ◌∷◌, ℕ, ℤ}
use Rattle.refusals.specs.Numbers.{value_of}
use Rattle.files.specs.declared.errors.WriteFileError.{WriteFileError}
use Rattle.files.specs.declared.errors.ReadFileError.{ReadFileError}
use Rattle.files.specs.declared.read.FileHead.{FileHead}
use Rattle.files.specs.Written.{written_number, written_value, WrittenAs}
use Rattle.files.specs.Taken.{read_block, answer_of, ReadAs}
use Rattle.basilurn.specs.Words.{packed}

-- What writing a file answers as one number: that of an answer that writing allows.
pub record PackedFiled (objectives n points : ℕ) (vs : List ℤ) (ms found left : List ℕ) (r : ℕ) : Type 0 where
  pub answer : Result ℕ WriteFileError
  pub allowed : WrittenAs objectives n points vs ms found left answer
  pub word : r ≡ packed (written_number answer) (written_value answer)

-- The answer number of reading a file: the points on done, the block on refusals 16 and 17, else 0.
abbrev pub taken_value : Result FileHead ReadFileError → ℕ
taken_value r = value_of (λ h. h.points) read_block r

-- Objectives, n and points of an answer, 0 on a refusal.
abbrev pub head_numbers : Result FileHead ReadFileError → List ℕ
head_numbers a = (answer_of a).objectives ∷ ((answer_of a).variables ∷ ((answer_of a).points ∷ []))

-- What reading a file answers as one number, beside the three numbers: those of an answer that reading allows.
pub record PackedTaken (f : List ℕ) (vs : List ℤ) (ms : List ℕ) (vs' : List ℤ) (ms' head : List ℕ) (r : ℕ) : Type 0 where
  pub answer : Result FileHead ReadFileError
  pub allowed : ReadAs f vs ms vs' ms' answer
  pub word : r ≡ packed (answer_of answer).number (taken_value answer)
  pub head_is : head ≡ head_numbers answer
