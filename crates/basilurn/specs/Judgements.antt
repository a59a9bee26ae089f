-- What judging answers at the C boundary.
use Rattle.std.specs.Prelude.{◌≡◌, Result, List, ℕ, ℤ}
use Rattle.judge.specs.declared.judging.Judgement.{Judgement}
use Rattle.judge.specs.declared.errors.JudgeError.{JudgeError}
use Rattle.judge.specs.Answers.{answer_of, JudgedAs}
use Rattle.basilurn.specs.Words.{packed}

-- What judging answers as one number, its row, beside the four values: those of an answer that judging allows.
pub record PackedJudged (ts rs : List ℤ) (assignment : ℕ) (values : List ℤ) (r : ℕ) : Type 0 where
  pub answer : Result Judgement JudgeError
  pub allowed : JudgedAs ts rs assignment answer
  pub word : r ≡ packed (answer_of answer).number (answer_of answer).row
  pub values_are : values ≡ (answer_of answer).values
