-- Digits: which bytes they are, what a list of them stands for, and what reading goes by. Assumes nothing.
use mathlib.Core.Path.{◌≡◌, refl, sym, ap, ◌∙◌, subst}
use mathlib.Core.Bool.{Bool, true, false, ◌&&◌, and-false}
use mathlib.Core.List.{List, [], ◌∷◌, ◌++◌}
use Prim.Native.Nat.{ℕ, zero, suc, ◌+◌, ◌-◌, ◌*◌, ◌^◌, ◌≤◌, ◌<◌}
use native.Mathlib.Nat.{add-zero, pow-suc, pow-le-pow_right}
use native.Mathlib.Numerals.{add-one}
use native.Mathlib.Omega.{arith}
use borrow.Author.Tests.{le-leb, lt-leb, leb-true}
use lib.Dec.{T, leb}
use Rattle.std.specs.Prelude.{Some, None}
use Rattle.std.proofs.lemmas.Option.{cond_some}
use lib.ListN.{length, get_or, drop}
use lib.Seq.{drop-cons, drop-length}
use Rattle.decimal.specs.Decimal.{digit_byte, is_digit, all_digits, digits_value, is_numeral, max_digits, read_numeral}

-- ---- both of two tests

pub and_left : (a b : Bool) → a && b ≡ true → a ≡ true
and_left true b h = refl
and_left false b h = h

pub and_right : (a b : Bool) → a && b ≡ true → b ≡ true
and_right true b h = h
and_right false b h = absurd (subst T (sym h) tt)

pub and_both : (a b : Bool) → a ≡ true → b ≡ true → a && b ≡ true
and_both a b h k = ap (λ (t : Bool). t && b) h ∙ k

-- ---- is_digit, all_digits

pub is_digit-byte : (d : ℕ) → d < 10 → is_digit (digit_byte d) ≡ true
is_digit-byte d h = simp (le-leb 48 (digit_byte d) (omega arith), le-leb (digit_byte d) 57 (omega arith))

pub is_digit-from : (b : ℕ) → is_digit b ≡ true → 48 ≤ b
is_digit-from b t = leb-true 48 b (and_left (leb 48 b) (leb b 57) t)

pub is_digit-to : (b : ℕ) → is_digit b ≡ true → b ≤ 57
is_digit-to b t = leb-true b 57 (and_right (leb 48 b) (leb b 57) t)

pub digit-one : (d : ℕ) → d < 10 → all_digits (digit_byte d ∷ []) ≡ true
unfolding all_digits
digit-one d h = ap (λ (t : Bool). t && true) (is_digit-byte d h)

pub all_digits-append : (xs ys : List ℕ) → all_digits xs ≡ true → all_digits ys ≡ true → all_digits (xs ++ ys) ≡ true
unfolding all_digits
all_digits-append [] ys h k = k
all_digits-append (x ∷ xs) ys h k =
    and_both (is_digit x) (all_digits (xs ++ ys))
    (and_left (is_digit x) (all_digits xs) h)
    (all_digits-append xs ys (and_right (is_digit x) (all_digits xs) h) k)

-- each byte of digits is a digit
pub all_digits-at : (w : List ℕ) (i : ℕ) → all_digits w ≡ true → i < length w → is_digit (get_or w i 0) ≡ true
unfolding all_digits
all_digits-at [] i h l = absurd (omega arith)
all_digits-at (b ∷ w) zero h l = and_left (is_digit b) (all_digits w) h
all_digits-at (b ∷ w) (suc i) h l = all_digits-at w i (and_right (is_digit b) (all_digits w) h) (omega arith)

-- the digits from i on are the one at i and those after it
pub all_digits-step : (w : List ℕ) (i : ℕ) → i < length w → all_digits (drop i w) ≡ is_digit (get_or w i 0) && all_digits (drop (i + 1) w)
unfolding all_digits
all_digits-step w i h = rw (add-one) (ap all_digits (drop-cons w i 0 h))

-- ---- digits_value

pub digits_value-snoc : (acc : ℕ) (ds : List ℕ) (b : ℕ) → digits_value acc (ds ++ (b ∷ [])) ≡ digits_value acc ds * 10 + (b - 48)
unfolding digits_value
digits_value-snoc acc [] b = refl
digits_value-snoc acc (d ∷ ds) b = digits_value-snoc (acc * 10 + (d - 48)) ds b

pub digits_value-step : (acc : ℕ) (w : List ℕ) (i : ℕ) → i < length w
    → digits_value acc (drop i w) ≡ digits_value (acc * 10 + (get_or w i 0 - 48)) (drop (i + 1) w)
unfolding digits_value
digits_value-step acc w i h = rw (add-one) (ap (digits_value acc) (drop-cons w i 0 h))

-- i digits stand for less than 10 ^ i: one digit more
pub value-step : (v i d : ℕ) → v < 10 ^ i → d < 10 → v * 10 + d < 10 ^ (i + 1)
value-step v i d h l = rw (add-one) (omega (arith, pow-suc 10 i))

-- so a number of few digits is small
pub value-small : (v i k : ℕ) → v < 10 ^ i → i ≤ k → v < 10 ^ k
value-small v i k h l = omega (arith, pow-le-pow_right {n = 10} (omega arith) l)

-- digits after digits that stand for less than 10 ^ k
digits_value-less : (w : List ℕ) (acc k : ℕ) → all_digits w ≡ true → acc < 10 ^ k → digits_value acc w < 10 ^ (k + length w)
unfolding all_digits digits_value
digits_value-less [] acc k t h = rw add-zero h
digits_value-less (b ∷ w) acc k t h =
    let d : b ≤ 57 = is_digit-to b (and_left (is_digit b) (all_digits w) t) in
    let e : k + 1 + length w ≡ k + suc (length w) = omega arith in
    rw e at
    (digits_value-less w (acc * 10 + (b - 48)) (k + 1) (and_right (is_digit b) (all_digits w) t) (value-step acc k (b - 48) h (omega arith)))

-- ---- is_numeral

pub numeral-digits : (w : List ℕ) → is_numeral w ≡ true → all_digits w ≡ true
unfolding is_numeral
numeral-digits w t = and_right (leb 1 (length w) && leb (length w) max_digits) (all_digits w) t

pub numeral-some : (w : List ℕ) → is_numeral w ≡ true → 1 ≤ length w
unfolding is_numeral
numeral-some w t =
    leb-true 1 (length w)
    (and_left (leb 1 (length w)) (leb (length w) max_digits) (and_left (leb 1 (length w) && leb (length w) max_digits) (all_digits w) t))

pub numeral-few : (w : List ℕ) → is_numeral w ≡ true → length w ≤ max_digits
unfolding is_numeral
numeral-few w t =
    leb-true (length w) max_digits
    (and_right (leb 1 (length w)) (leb (length w) max_digits) (and_left (leb 1 (length w) && leb (length w) max_digits) (all_digits w) t))

-- a numeral stands for a number below 10 ^ 10
pub numeral-less : (w : List ℕ) → is_numeral w ≡ true → digits_value 0 w < 10 ^ max_digits
numeral-less w t =
    value-small (digits_value 0 w) (0 + length w) max_digits
    (digits_value-less w 0 0 (numeral-digits w t) (omega arith))
    (omega (arith, numeral-few w t))

pub numeral-yes : (w : List ℕ) → 1 ≤ length w → length w ≤ max_digits → all_digits w ≡ true → is_numeral w ≡ true
unfolding is_numeral
numeral-yes w some few h =
    and_both (leb 1 (length w) && leb (length w) max_digits) (all_digits w)
    (and_both (leb 1 (length w)) (leb (length w) max_digits) (le-leb 1 (length w) some) (le-leb (length w) max_digits few))
    h

pub numeral-empty : (w : List ℕ) → length w < 1 → is_numeral w ≡ false
unfolding is_numeral
numeral-empty w h = ap (λ (t : Bool). (t && leb (length w) max_digits) && all_digits w) (lt-leb 1 (length w) h)

pub numeral-long : (w : List ℕ) → max_digits < length w → is_numeral w ≡ false
unfolding is_numeral
numeral-long w h =
    ap (λ (t : Bool). (leb 1 (length w) && t) && all_digits w) (lt-leb (length w) max_digits h)
    ∙ ap (λ (t : Bool). t && all_digits w) (and-false (leb 1 (length w)))

pub numeral-other : (w : List ℕ) → all_digits w ≡ false → is_numeral w ≡ false
unfolding is_numeral
numeral-other w h =
    ap (λ (t : Bool). (leb 1 (length w) && leb (length w) max_digits) && t) h
    ∙ and-false (leb 1 (length w) && leb (length w) max_digits)

-- ---- read_numeral

pub read-yes : (w : List ℕ) (v : ℕ) → is_numeral w ≡ true → v ≡ digits_value 0 w → Some v ≡ read_numeral w
read-yes w v t e = rw (t, e)

pub read_no : (w : List ℕ) → is_numeral w ≡ false → None ≡ read_numeral w
read_no w t = rw t

-- what is read is below 10 ^ 10
pub read-less : (w : List ℕ) (v : ℕ) → read_numeral w ≡ Some v → v < 10 ^ max_digits
read-less w v h =
    let e = cond_some (is_numeral w) (digits_value 0 w) v h in
    rw (sym (e.1)) (numeral-less w (e.0))

-- ---- a reader at byte i of w, all before it digits

-- it meets another byte
pub reader-stop : (w : List ℕ) (i : ℕ) → i < length w → all_digits (drop i w) ≡ all_digits w → is_digit (get_or w i 0) ≡ false → is_numeral w ≡ false
reader-stop w i h e t =
    numeral-other w (sym e ∙ all_digits-step w i h ∙ ap (λ (b : Bool). b && all_digits (drop (i + 1) w)) t)

-- it meets a digit
pub reader-go : (w : List ℕ) (i : ℕ) → i < length w → all_digits (drop i w) ≡ all_digits w → is_digit (get_or w i 0) ≡ true → all_digits (drop (i + 1) w) ≡ all_digits w
reader-go w i h e t =
    sym (all_digits-step w i h ∙ ap (λ (b : Bool). b && all_digits (drop (i + 1) w)) t) ∙ e

-- it is at the end
pub reader-end : (w : List ℕ) (i v : ℕ) → i ≡ length w → 1 ≤ length w → length w ≤ max_digits
    → digits_value v (drop i w) ≡ digits_value 0 w → all_digits (drop i w) ≡ all_digits w
    → Some v ≡ read_numeral w
unfolding digits_value all_digits
reader-end w i v end some few e t =
    let none : drop i w ≡ [] = ap (λ (k : ℕ). drop k w) end ∙ drop-length w in
    read-yes w v
    (numeral-yes w some few (sym t ∙ ap all_digits none))
    (sym (ap (digits_value v) none) ∙ e)
