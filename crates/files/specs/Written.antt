-- Document 01, 'Refusal numbers' and 'Orders': what writing a file answers, and what it leaves.
use Rattle.std.specs.Prelude.{◌≡◌, Result, Ok, Err, List, ℕ, ◌*◌, ◌≤◌, ◌<◌, ℤ, length, drop}
use Rattle.points.specs.Lists.{Proper}
use Rattle.blocks.specs.Fields.{block_len}
use Rattle.files.specs.Layout.{blocks_for, FileOf}
use Rattle.refusals.specs.Numbers.{number_of, value_of}
use Rattle.files.specs.declared.errors.WriteFileError.{WriteFileError}
use Rattle.files.specs.declared.errors.WriteFileError.TheVariants.{NotProper, ShortOutput}

-- The number of each refusal: 14 for a list that is not proper, 13 for an output that is too short.
abbrev pub write_number : WriteFileError → ℕ
write_number NotProper = 14
write_number ShortOutput = 13

-- The number of each answer: 0 for done.
abbrev pub written_number : Result ℕ WriteFileError → ℕ
written_number r = number_of write_number r

-- The value of each answer: the bytes written, 0 for a refusal.
abbrev pub written_value : Result ℕ WriteFileError → ℕ
written_value r = value_of (λ k. k) (λ e. 0) r

-- The bytes of the file of so many points.
abbrev pub bytes_for : ℕ → ℕ
bytes_for points = blocks_for points * block_len

module _ (objectives n points : ℕ) (vs : List ℤ) (ms : List ℕ) (found left : List ℕ) (number value : ℕ) where
  -- 0: the list is proper; its file stands at the beginning of the output, the rest as found; the value is its length.
  pub record WrittenAll : Type 0 where
    pub numbered : number ≡ 0
    pub proper : Proper objectives n points vs ms
    pub room : bytes_for points ≤ length found
    pub count : value ≡ bytes_for points
    pub whole : length left ≡ length found
    pub file : FileOf objectives n points vs ms left
    pub rest : drop (bytes_for points) left ≡ drop (bytes_for points) found

  -- 14: the list is not proper; the output is as found.
  pub record RefusedList : Type 0 where
    pub numbered : number ≡ 14
    pub none : value ≡ 0
    pub improper : Proper objectives n points vs ms → ⊥
    pub output : left ≡ found

  -- 13: the list is proper and its file is longer than the output, which is as found.
  pub record RefusedOutput : Type 0 where
    pub numbered : number ≡ 13
    pub none : value ≡ 0
    pub proper : Proper objectives n points vs ms
    pub short : length found < bytes_for points
    pub output : left ≡ found

-- What writing the list answers, and what it leaves of the output found.
abbrev pub WrittenAs : ℕ → ℕ → ℕ → List ℤ → List ℕ → List ℕ → List ℕ → Result ℕ WriteFileError → Type 0
WrittenAs o n p vs ms found left (Ok k) = WrittenAll o n p vs ms found left (written_number (Ok k)) (written_value (Ok k))
WrittenAs o n p vs ms found left (Err NotProper) = RefusedList o n p vs ms found left (written_number (Err NotProper)) (written_value (Err NotProper))
WrittenAs o n p vs ms found left (Err ShortOutput) = RefusedOutput o n p vs ms found left (written_number (Err ShortOutput)) (written_value (Err ShortOutput))
