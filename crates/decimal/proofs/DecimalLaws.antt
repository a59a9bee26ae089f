-- Numbers in decimal: one digit more, enough fuel, digits only, their value, their length, their first byte. Assumes nothing.
use mathlib.Core.Path.{◌≡◌, refl, sym, ap, ◌∙◌}
use mathlib.Core.Bool.{Bool, true, cond}
use mathlib.Core.List.{List, [], ◌∷◌, ◌++◌}
use Prim.Native.Nat.{ℕ, zero, suc, ◌+◌, ◌/◌, ◌%◌, ◌^◌, ◌≤◌, ◌<◌}
use native.Mathlib.Decide.{dec_lt}
use native.Mathlib.Nat.{pow-suc}
use native.Mathlib.Omega.{arith}
use borrow.Author.Tests.{lt-ltb, le-ltb}
use lib.ListN.{length, get_or, length-append, get_or-append}
use Rattle.std.specs.Prelude.{Some}
use Rattle.decimal.specs.Decimal.{decimal_in, decimal, digit_byte, all_digits, digits_value, is_numeral, max_digits, read_numeral}
use Rattle.decimal.proofs.NumeralLaws.{digit-one, all_digits-append, digits_value-snoc, numeral-yes, read-yes}

le_of_not_lt : {a b : ℕ} → (a < b → ⊥) → b ≤ a
le_of_not_lt h = omega arith

-- a number is one digit or more
by_size : {P : Type 0} (n : ℕ) → (n < 10 → P) → (10 ≤ n → P) → P
by_size {P} n small large = pick (dec_lt n 10)
  where
    pick : Dec (n < 10) → P
    pick (yes h) = small h
    pick (no h) = large (le_of_not_lt h)

-- a quotient by 10 needs one digit less
pub tenth-less : (k n : ℕ) → n < 10 ^ suc k → n / 10 < 10 ^ k
tenth-less k n h = omega (arith, pow-suc 10 k)

-- ---- decimal_in, decimal

pub decimal_in-small : (k n : ℕ) → n < 10 → decimal_in (suc k) n ≡ digit_byte n ∷ []
unfolding decimal_in
decimal_in-small k n h =
    ap (λ (t : Bool). cond t (digit_byte n ∷ []) (decimal_in k (n / 10) ++ (digit_byte (n % 10) ∷ []))) (lt-ltb n 10 h)

pub decimal_in-large : (k n : ℕ) → 10 ≤ n → decimal_in (suc k) n ≡ decimal_in k (n / 10) ++ (digit_byte (n % 10) ∷ [])
unfolding decimal_in
decimal_in-large k n h =
    ap (λ (t : Bool). cond t (digit_byte n ∷ []) (decimal_in k (n / 10) ++ (digit_byte (n % 10) ∷ []))) (le-ltb n 10 h)

-- more fuel than digits changes nothing
pub decimal_in-fuel : (k n : ℕ) → n < 10 ^ suc k → decimal_in (suc (suc k)) n ≡ decimal_in (suc k) n
decimal_in-fuel zero n h = decimal_in-small 1 n h ∙ sym (decimal_in-small 0 n h)
decimal_in-fuel (suc k) n h =
    by_size n
    (λ l. decimal_in-small (suc (suc k)) n l ∙ sym (decimal_in-small (suc k) n l))
    (λ l. decimal_in-large (suc (suc k)) n l
    ∙ ap (λ (ds : List ℕ). ds ++ (digit_byte (n % 10) ∷ [])) (decimal_in-fuel k (n / 10) (tenth-less (suc k) n h))
    ∙ sym (decimal_in-large (suc k) n l))

-- a number below 10 is its digit
pub decimal-small : (n : ℕ) → n < 10 → decimal n ≡ digit_byte n ∷ []
decimal-small n h = decimal_in-small 19 n h

-- any other is the rest of its digits, and its last one
pub decimal-large : (n : ℕ) → 10 ≤ n → n < 10 ^ 20 → decimal n ≡ decimal (n / 10) ++ (digit_byte (n % 10) ∷ [])
decimal-large n l h =
    decimal_in-large 19 n l
    ∙ ap (λ (ds : List ℕ). ds ++ (digit_byte (n % 10) ∷ [])) (sym (decimal_in-fuel 18 (n / 10) (tenth-less 19 n h)))

-- ---- the length

snoc-length : (ds : List ℕ) (b : ℕ) → length (ds ++ (b ∷ [])) ≡ length ds + 1
snoc-length ds b = length-append ds (b ∷ [])

pub decimal_in-some : (k n : ℕ) → 1 ≤ length (decimal_in (suc k) n)
decimal_in-some k n =
    by_size n
    (λ l. omega (arith, ap length (decimal_in-small k n l)))
    (λ l. omega (arith, ap length (decimal_in-large k n l), snoc-length (decimal_in k (n / 10)) (digit_byte (n % 10))))

-- a number below 10 ^ k has at most k digits
pub decimal_in-length : (fuel k n : ℕ) → 1 ≤ k → n < 10 ^ k → length (decimal_in fuel n) ≤ k
unfolding decimal_in
decimal_in-length zero k n some h = omega arith
decimal_in-length (suc fuel) zero n some h = absurd (omega arith)
decimal_in-length (suc fuel) (suc zero) n some h = omega (arith, ap length (decimal_in-small fuel n h))
decimal_in-length (suc fuel) (suc (suc k)) n some h =
    by_size n
    (λ l. omega (arith, ap length (decimal_in-small fuel n l)))
    (λ l. omega (
      arith,
      ap length (decimal_in-large fuel n l),
      snoc-length (decimal_in fuel (n / 10)) (digit_byte (n % 10)),
      decimal_in-length fuel (suc k) (n / 10) (omega arith) (tenth-less (suc k) n h),
    ))

-- one digit more than its tenth has
pub decimal-more : (n : ℕ) → 10 ≤ n → n < 10 ^ 20 → length (decimal n) ≡ length (decimal (n / 10)) + 1
decimal-more n l h = ap length (decimal-large n l h) ∙ snoc-length (decimal (n / 10)) (digit_byte (n % 10))

-- a digit alone
pub decimal-one : (n : ℕ) → n < 10 → length (decimal n) ≡ 1
decimal-one n h = ap length (decimal-small n h)

-- there is a digit
pub decimal-some : (n : ℕ) → 1 ≤ length (decimal n)
decimal-some n = decimal_in-some 19 n

pub decimal-length : (k n : ℕ) → 1 ≤ k → n < 10 ^ k → length (decimal n) ≤ k
decimal-length = decimal_in-length 20

-- ---- the bytes

-- what stands before the last digit is digits, and so is the whole
snoc-digits : (ds : List ℕ) (d : ℕ) → all_digits ds ≡ true → d < 10 → all_digits (ds ++ (digit_byte d ∷ [])) ≡ true
snoc-digits ds d h l = all_digits-append ds (digit_byte d ∷ []) h (digit-one d l)

pub decimal_in-digits : (fuel n : ℕ) → all_digits (decimal_in fuel n) ≡ true
unfolding decimal_in all_digits
decimal_in-digits zero n = refl
decimal_in-digits (suc fuel) n =
    by_size n
    (λ l. ap all_digits (decimal_in-small fuel n l) ∙ digit-one n l)
    (λ l. ap all_digits (decimal_in-large fuel n l) ∙ snoc-digits (decimal_in fuel (n / 10)) (n % 10) (decimal_in-digits fuel (n / 10)) (omega arith))

-- each byte is a digit
pub decimal-digits : (n : ℕ) → all_digits (decimal n) ≡ true
decimal-digits n = decimal_in-digits 20 n

-- the first byte of a number that is not 0 is above 48
pub decimal_in-first : (fuel n : ℕ) → 1 ≤ n → n < 10 ^ fuel → 49 ≤ get_or (decimal_in fuel n) 0 0
decimal_in-first zero n some h = absurd (omega arith)
decimal_in-first (suc zero) n some h = omega (arith, ap (λ (ds : List ℕ). get_or ds 0 0) (decimal_in-small 0 n h))
decimal_in-first (suc (suc fuel)) n some h =
    by_size n
    (λ l. omega (arith, ap (λ (ds : List ℕ). get_or ds 0 0) (decimal_in-small (suc fuel) n l)))
    (λ l. omega (
      arith,
      ap (λ (ds : List ℕ). get_or ds 0 0) (decimal_in-large (suc fuel) n l),
      get_or-append (decimal_in (suc fuel) (n / 10)) (digit_byte (n % 10) ∷ []) 0 0 (decimal_in-some fuel (n / 10)),
      decimal_in-first (suc fuel) (n / 10) (omega arith) (tenth-less (suc fuel) n h),
    ))

-- no leading zero: the first byte is not 48, unless the number is 0
pub decimal-first : (n : ℕ) → 1 ≤ n → n < 10 ^ 20 → get_or (decimal n) 0 0 ≡ 48 → ⊥
decimal-first n some h e = omega (arith, decimal_in-first 20 n some h)

-- ---- the value

pub decimal_in-value : (fuel n : ℕ) → n < 10 ^ fuel → digits_value 0 (decimal_in fuel n) ≡ n
unfolding decimal_in digits_value
decimal_in-value zero n h = omega arith
decimal_in-value (suc fuel) n h =
    by_size n
    (λ l. ap (digits_value 0) (decimal_in-small fuel n l) ∙ omega arith)
    (λ l. ap (digits_value 0) (decimal_in-large fuel n l)
    ∙ digits_value-snoc 0 (decimal_in fuel (n / 10)) (digit_byte (n % 10))
    ∙ omega (arith, decimal_in-value fuel (n / 10) (tenth-less fuel n h)))

-- the digits of a number stand for it
pub decimal-value : (n : ℕ) → n < 10 ^ 20 → digits_value 0 (decimal n) ≡ n
decimal-value n h = decimal_in-value 20 n h

-- a number below 10 ^ 10 is written as a numeral
pub decimal-numeral : (n : ℕ) → n < 10 ^ max_digits → is_numeral (decimal n) ≡ true
decimal-numeral n h =
    numeral-yes (decimal n) (decimal-some n) (decimal-length max_digits n (omega arith) h) (decimal-digits n)

-- and read back as itself
pub decimal-read : (n : ℕ) → n < 10 ^ max_digits → read_numeral (decimal n) ≡ Some n
decimal-read n h = sym (read-yes (decimal n) n (decimal-numeral n h) (sym (decimal-value n (omega arith))))
