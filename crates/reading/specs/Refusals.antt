-- Document 01, 'Refusal numbers': those of reading text.
use Rattle.std.specs.Prelude.{ℕ, ◌≤◌}
use native.Mathlib.Omega.{arith}
use Rattle.reading.specs.declared.errors.ReadError.{ReadError}
use Rattle.reading.specs.declared.errors.ReadError.TheVariants.{ShortTable, LongText, Grammar, LateObjective, TooMany, OutOfRange, NoVariable, TooManyTerms, NoObjective}

-- The number of each refusal.
abbrev pub refusal_number : ReadError → ℕ
refusal_number ShortTable = 1
refusal_number LongText = 2
refusal_number (Grammar s) = 3
refusal_number (LateObjective s) = 4
refusal_number (TooMany s) = 5
refusal_number (OutOfRange s) = 6
refusal_number (NoVariable s) = 7
refusal_number (TooManyTerms s) = 8
refusal_number NoObjective = 9

-- The statement that a refusal names, 0 where it names none.
abbrev pub refusal_value : ReadError → ℕ
refusal_value ShortTable = 0
refusal_value LongText = 0
refusal_value (Grammar s) = s
refusal_value (LateObjective s) = s
refusal_value (TooMany s) = s
refusal_value (OutOfRange s) = s
refusal_value (NoVariable s) = s
refusal_value (TooManyTerms s) = s
refusal_value NoObjective = 0

pub refusal-some : (e : ReadError) → 1 ≤ refusal_number e
refusal-some ShortTable = omega arith
refusal-some LongText = omega arith
refusal-some (Grammar s) = omega arith
refusal-some (LateObjective s) = omega arith
refusal-some (TooMany s) = omega arith
refusal-some (OutOfRange s) = omega arith
refusal-some (NoVariable s) = omega arith
refusal-some (TooManyTerms s) = omega arith
refusal-some NoObjective = omega arith

pub refusal-small : (e : ReadError) → refusal_number e ≤ 99
refusal-small ShortTable = omega arith
refusal-small LongText = omega arith
refusal-small (Grammar s) = omega arith
refusal-small (LateObjective s) = omega arith
refusal-small (TooMany s) = omega arith
refusal-small (OutOfRange s) = omega arith
refusal-small (NoVariable s) = omega arith
refusal-small (TooManyTerms s) = omega arith
refusal-small NoObjective = omega arith
