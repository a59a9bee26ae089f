-- Decimal numbers as bytes, after document 01: `Instance text` and `The listing program`.
use Rattle.std.specs.Prelude.{Bool, true, cond, ◌&&◌, List, [], ◌∷◌, ◌++◌, ℕ, zero, suc, ◌+◌, ◌-◌, ◌*◌, ◌/◌, ◌%◌, ltb, leb, ℤ, pos, negsuc, nat_abs, length, Option, Some, None}

-- ---- numbers written

-- the digit byte of d, for d below 10
abbrev pub digit_byte : ℕ → ℕ
digit_byte d = 48 + d

-- the last digits of n, at most `fuel` of them, without leading zeros
unfoldable pub decimal_in : ℕ → ℕ → List ℕ
decimal_in zero n = []
decimal_in (suc fuel) n = cond (ltb n 10) (digit_byte n ∷ []) (decimal_in fuel (n / 10) ++ (digit_byte (n % 10) ∷ []))

-- n in decimal, without leading zeros, for n below 10 ^ 20: so for every 64-bit number
abbrev pub decimal : ℕ → List ℕ
decimal n = decimal_in 20 n

-- an integer in decimal: a minus if negative, never a plus
abbrev pub integer : ℤ → List ℕ
integer (pos n) = decimal n
integer (negsuc n) = 45 ∷ decimal (suc n)

-- the byte of a number's sign: a minus if negative, else a plus
abbrev pub sign_byte : ℤ → ℕ
sign_byte (pos n) = 43
sign_byte (negsuc n) = 45

-- an integer in decimal after its sign: zero is +0
abbrev pub signed : ℤ → List ℕ
signed z = sign_byte z ∷ decimal (nat_abs z)

-- ---- numerals read

-- the most digits of a numeral
abbrev pub max_digits : ℕ
max_digits = 10

-- b is one of the bytes 0 to 9
abbrev pub is_digit : ℕ → Bool
is_digit b = leb 48 b && leb b 57

-- each byte is a digit
unfoldable pub all_digits : List ℕ → Bool
all_digits [] = true
all_digits (b ∷ bs) = is_digit b && all_digits bs

-- the number that digits stand for, after digits that stand for `acc`
unfoldable pub digits_value : ℕ → List ℕ → ℕ
digits_value acc [] = acc
digits_value acc (b ∷ bs) = digits_value (acc * 10 + (b - 48)) bs

-- a word is 1 to 10 digits and nothing else; leading zeros are allowed
unfoldable pub is_numeral : List ℕ → Bool
is_numeral w = (leb 1 (length w) && leb (length w) max_digits) && all_digits w

-- what reading a word as a numeral finds: its value, if it is one
abbrev pub read_numeral : List ℕ → Option ℕ
read_numeral w = cond (is_numeral w) (Some (digits_value 0 w)) None
