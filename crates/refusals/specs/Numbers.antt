-- Document 01, 'Refusal numbers': the number of an answer, and the number that it gives.
use Rattle.std.specs.Prelude.{ℕ, Result, Ok, Err}

-- 0 for done, else the refusal's.
abbrev pub number_of : {T E : Type 0} → (E → ℕ) → Result T E → ℕ
number_of number (Ok x) = 0
number_of number (Err e) = number e

-- What done answers, else what the refusal names.
abbrev pub value_of : {T E : Type 0} → (T → ℕ) → (E → ℕ) → Result T E → ℕ
value_of done value (Ok x) = done x
value_of done value (Err e) = value e
