-- A number, a literal and a relation, written as words and read again. Assumes nothing.
use mathlib.Core.Path.{◌≡◌, refl, ap, ◌∙◌}
use mathlib.Core.Bool.{Bool, true, false, cond, ◌&&◌}
use mathlib.Core.List.{List, [], ◌∷◌}
use Rattle.std.specs.Prelude.{None, Some}
use Prim.Native.Nat.{ℕ, zero, suc, ◌^◌, ◌≤◌, ◌<◌}
use native.Mathlib.Omega.{arith}
use borrow.Author.Tests.{ne_eqb}
use lib.Dec.{eqb}
use lib.IntN.{ℤ, pos, negsuc, nat_abs}
use lib.ListN.{length, get_or}
use Rattle.decimal.specs.Decimal.{decimal, integer, sign_byte, signed, all_digits, digits_value, max_digits}
use Rattle.decimal.proofs.NumeralLaws.{all_digits-at, is_digit-from, is_digit-to}
use Rattle.decimal.proofs.DecimalLaws.{decimal-numeral, decimal-value, decimal-digits, decimal-some}
use Rattle.words.specs.Numbers.{sign_of, digits, number, literal, relation, is_min}
use Rattle.words.proofs.NumberLaws.{number-plain}
use Rattle.writing.specs.Writing.{literal_text, relation_text}

-- ---- digits

digits_decimal : (negative : Bool) (n : ℕ) → n < 10 ^ max_digits → digits negative (decimal n) ≡ Some (sign_of negative n)
digits_decimal negative n h =
    ap (λ (t : Bool). cond t (Some (sign_of negative (digits_value 0 (decimal n)))) None) (decimal-numeral n h)
    ∙ ap (λ (v : ℕ). Some (sign_of negative v)) (decimal-value n (omega arith))

-- ---- the first byte of a number in decimal is a digit

first-from : (n : ℕ) → 48 ≤ get_or (decimal n) 0 0
first-from n = is_digit-from (get_or (decimal n) 0 0) (all_digits-at (decimal n) 0 (decimal-digits n) (decimal-some n))

first_to : (n : ℕ) → get_or (decimal n) 0 0 ≤ 57
first_to n = is_digit-to (get_or (decimal n) 0 0) (all_digits-at (decimal n) 0 (decimal-digits n) (decimal-some n))

-- ---- number

pub number-signed : (z : ℤ) → nat_abs z < 10 ^ max_digits → number (signed z) ≡ Some z
number-signed (pos n) h = digits_decimal false n h
number-signed (negsuc n) h = digits_decimal true (suc n) h

pub number-integer : (z : ℤ) → nat_abs z < 10 ^ max_digits → number (integer z) ≡ Some z
number-integer (pos n) h =
    number-plain (decimal n) (λ e. omega (arith, decimal-some n)) (λ e. omega (arith, first-from n)) (λ e. omega (arith, first-from n))
    ∙ digits_decimal false n h
number-integer (negsuc n) h = digits_decimal true (suc n) h

-- ---- literal

pub literal-text : (z : ℤ) → nat_abs z < 10 ^ max_digits → literal (literal_text z) ≡ Some z
literal-text (pos n) h = digits_decimal false n h
literal-text (negsuc n) h = digits_decimal true (suc n) h

-- ---- relation

-- digits after one byte are no relation
relation-digits : (s : ℕ) (w : List ℕ) → 1 ≤ length w → all_digits w ≡ true → relation (s ∷ w) ≡ 0
relation-digits s [] l h = absurd (omega arith)
relation-digits s (b ∷ []) l h =
    ap (λ (t : Bool). cond t (cond (eqb s 62) 2 (cond (eqb s 60) 3 0)) 0) (ne_eqb b 61 (λ e. omega (arith, is_digit-to b (all_digits-at (b ∷ []) 0 h l))))
relation-digits s (b ∷ (c ∷ w)) l h = refl

pub relation-signed : (z : ℤ) → relation (signed z) ≡ 0
relation-signed z = relation-digits (sign_byte z) (decimal (nat_abs z)) (decimal-some (nat_abs z)) (decimal-digits (nat_abs z))

pub relation-text : (k : ℕ) → 2 ≤ k → k ≤ 4 → relation (relation_text k) ≡ k
relation-text zero l h = absurd (omega arith)
relation-text (suc zero) l h = absurd (omega arith)
relation-text (suc (suc zero)) l h = refl
relation-text (suc (suc (suc zero))) l h = refl
relation-text (suc (suc (suc (suc zero)))) l h = refl
relation-text (suc (suc (suc (suc (suc k))))) l h = absurd (omega arith)

-- ---- is_min

-- a word that begins with another byte than `m`
min-first : (a : ℕ) (w : List ℕ) → eqb a 109 ≡ false → is_min (a ∷ w) ≡ false
min-first a [] h = refl
min-first a (b ∷ []) h = refl
min-first a (b ∷ (c ∷ [])) h = refl
min-first a (b ∷ (c ∷ (d ∷ []))) h = ap (λ (t : Bool). t && (eqb b 105 && (eqb c 110 && eqb d 58))) h
min-first a (b ∷ (c ∷ (d ∷ (e ∷ w)))) h = refl

pub min-signed : (z : ℤ) → is_min (signed z) ≡ false
min-signed (pos n) = min-first 43 (decimal n) refl
min-signed (negsuc n) = min-first 45 (decimal (suc n)) refl

pub min-relation : (k : ℕ) → is_min (relation_text k) ≡ false
min-relation k = by (eqb k 2) (eqb k 3)
  where
    by : (t u : Bool) → is_min (cond t (62 ∷ (61 ∷ [])) (cond u (60 ∷ (61 ∷ [])) (61 ∷ []))) ≡ false
    by true u = refl
    by false true = refl
    by false false = refl
