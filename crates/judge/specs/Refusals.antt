-- Document 01, 'Refusal numbers': those of judging.
use Rattle.std.specs.Prelude.{ℕ}
use Rattle.judge.specs.declared.errors.JudgeError.{JudgeError}
use Rattle.judge.specs.declared.errors.JudgeError.TheVariants.{NotInstance, BitsBeyond}

-- 10 for tables that are not an instance, 12 for an assignment that has a bit from n up.
abbrev pub refusal_number : JudgeError → ℕ
refusal_number NotInstance = 10
refusal_number BitsBeyond = 12
