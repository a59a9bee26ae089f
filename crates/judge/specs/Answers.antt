-- Document 01, 'Refusal numbers' and 'Orders': what judging answers.
use Rattle.std.specs.Prelude.{◌≡◌, List, [], ℕ, ◌^◌, ◌≤◌, ◌<◌, ℤ, Result, Ok, Err}
use Rattle.instance.specs.Tables.{IsInstance}
use Rattle.instance.specs.Meaning.{meaning, vector}
use Rattle.judge.specs.Judging.{first_unmet, padded}
use Rattle.judge.specs.Refusals.{refusal_number}
use Rattle.judge.specs.declared.judging.Judgement.{Judgement}
use Rattle.judge.specs.declared.errors.JudgeError.{JudgeError}
use Rattle.judge.specs.declared.errors.JudgeError.TheVariants.{NotInstance, BitsBeyond}

-- An answer by the document: its number (0 for done), four values, a row.
pub record Answer : Type 0 where
  pub number : ℕ
  pub values : List ℤ
  pub row : ℕ

-- A refusal has four values 0 and row 0.
abbrev pub refusal : ℕ → Answer
refusal n = record { number = n; values = padded []; row = 0 }

-- The number and the values of each case.
abbrev pub answer_of : Result Judgement JudgeError → Answer
answer_of (Ok j) = record { number = 0; values = j.values; row = j.row }
answer_of (Err e) = refusal (refusal_number e)

-- The tables are an instance and the assignment has no bit from n up; the answer has its vector, unused values 0, and its first unmet row.
pub record Judges (ts rs : List ℤ) (a : ℕ) (x : Answer) : Type 0 where
  pub is : IsInstance ts rs
  pub bits : a < 2 ^ (meaning ts rs).variables
  pub values : x.values ≡ padded (vector (meaning ts rs) a)
  pub row : x.row ≡ first_unmet (meaning ts rs).rows a

-- Some bit from n up is 1.
pub record Beyond (ts rs : List ℤ) (a : ℕ) : Type 0 where
  pub is : IsInstance ts rs
  pub bits : 2 ^ (meaning ts rs).variables ≤ a

-- Each case exactly where the document has it: refusal 10 first, then 12.
abbrev pub JudgedAs : List ℤ → List ℤ → ℕ → Result Judgement JudgeError → Type 0
JudgedAs ts rs a (Ok j) = Judges ts rs a (answer_of (Ok j))
JudgedAs ts rs a (Err NotInstance) = IsInstance ts rs → ⊥
JudgedAs ts rs a (Err BitsBeyond) = Beyond ts rs a
