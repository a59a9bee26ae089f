-- Document 01, 'Refusal numbers': what writing an instance as text answers, and what it leaves.
use Rattle.std.specs.Prelude.{◌≡◌, List, ℕ, ◌≤◌, ◌<◌, ℤ, length, Result, Ok, Err}
use Rattle.decimal.specs.Bytes.{overwrite}
use Rattle.instance.specs.Tables.{IsInstance}
use Rattle.instance.specs.Meaning.{meaning}
use Rattle.writing.specs.Writing.{instance_text}
use Rattle.writing.specs.Refusals.{refusal_number}
use Rattle.refusals.specs.Numbers.{number_of, value_of}
use Rattle.writing.specs.declared.errors.WriteError.{WriteError}
use Rattle.writing.specs.declared.errors.WriteError.TheVariants.{NotInstance, ShortOutput}

-- The text of the instance that the tables are.
abbrev pub text_of : List ℤ → List ℤ → List ℕ
text_of ts rs = instance_text (meaning ts rs)

-- The number of each answer: 0 for done.
abbrev pub written_number : Result ℕ WriteError → ℕ
written_number r = number_of refusal_number r

-- The value of each answer: the bytes written, 0 for a refusal.
abbrev pub written_value : Result ℕ WriteError → ℕ
written_value r = value_of (λ k. k) (λ e. 0) r

-- 0: the tables are an instance; the value is the length of its text, which stands at the beginning of the output, the rest as found.
pub record WrittenAll (ts rs : List ℤ) (found left : List ℕ) (number value : ℕ) : Type 0 where
  pub numbered : number ≡ 0
  pub is : IsInstance ts rs
  pub room : length (text_of ts rs) ≤ length found
  pub count : value ≡ length (text_of ts rs)
  pub output : left ≡ overwrite found 0 (text_of ts rs)

-- 10: the tables are not an instance; the output is as found.
pub record RefusedTables (ts rs : List ℤ) (found left : List ℕ) (number value : ℕ) : Type 0 where
  pub numbered : number ≡ 10
  pub none : value ≡ 0
  pub is_not : IsInstance ts rs → ⊥
  pub output : left ≡ found

-- 13: the tables are an instance whose text is longer than the output, which is as found.
pub record RefusedOutput (ts rs : List ℤ) (found left : List ℕ) (number value : ℕ) : Type 0 where
  pub numbered : number ≡ 13
  pub none : value ≡ 0
  pub is : IsInstance ts rs
  pub short : length found < length (text_of ts rs)
  pub output : left ≡ found

-- What writing the tables ts and rs answers, and what it leaves of the output found.
abbrev pub WrittenAs : List ℤ → List ℤ → List ℕ → List ℕ → Result ℕ WriteError → Type 0
WrittenAs ts rs found left (Ok k) = WrittenAll ts rs found left (written_number (Ok k)) (written_value (Ok k))
WrittenAs ts rs found left (Err NotInstance) = RefusedTables ts rs found left (written_number (Err NotInstance)) (written_value (Err NotInstance))
WrittenAs ts rs found left (Err ShortOutput) = RefusedOutput ts rs found left (written_number (Err ShortOutput)) (written_value (Err ShortOutput))
