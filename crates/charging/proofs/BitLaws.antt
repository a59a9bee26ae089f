-- Bits of a word: bit v is a / 2 ^ v % 2, and adding 2 ^ v where it is 0 sets it and no other bit.
use mathlib.Core.Path.{◌≡◌, refl, ap, sym, ◌∙◌}
use Prim.Native.Nat.{ℕ, zero, suc, ◌+◌, ◌/◌, ◌%◌, ◌^◌, ◌<◌}
use native.Mathlib.Nat.{not-suc-le-zero, le_of_suc-le-suc, pow-succ', two-mul, div-one, div-div-eq-div-mul}
use native.Mathlib.Omega.{arith}
use borrow.Author.Tests.{eq-eqb, ne_eqb}
use Rattle.charging.specs.Rows.{bit, seen}

pub bit_word : (a v : ℕ) → bit a v ≡ a / 2 ^ v % 2
unfolding bit
bit_word a zero = rw div-one
bit_word a (suc v) =
    let e : a / 2 ^ suc v ≡ a / 2 / 2 ^ v = ap (λ (x : ℕ). a / x) (pow-succ' 2 v) ∙ sym (div-div-eq-div-mul a 2 (2 ^ v)) in
    rw e (bit_word (a / 2) v)

pub bit-two : (a v : ℕ) → bit a v < 2
unfolding bit
bit-two a zero = omega arith
bit-two a (suc v) = bit-two (a / 2) v

twice : (v : ℕ) → 2 ^ suc v ≡ 2 ^ v + 2 ^ v
twice v = pow-succ' 2 v ∙ two-mul (2 ^ v)

half_up : (a v : ℕ) → (a + 2 ^ suc v) / 2 ≡ a / 2 + 2 ^ v
half_up a v = let t = twice v in omega arith

-- setting a bit that is 0
pub set_same : (a v : ℕ) → bit a v ≡ 0 → bit (a + 2 ^ v) v ≡ 1
unfolding bit
set_same a zero e = omega arith
set_same a (suc v) e = rw half_up (set_same (a / 2) v e)

pub set_other : (a v u : ℕ) → bit a v ≡ 0 → (u ≡ v → ⊥) → bit (a + 2 ^ v) u ≡ bit a u
unfolding bit
set_other a zero zero e f = absurd (f refl)
set_other a zero (suc u) e f = let h : (a + 1) / 2 ≡ a / 2 = omega arith in rw h
set_other a (suc v) zero e f = let t = twice v in omega arith
set_other a (suc v) (suc u) e f = rw half_up (set_other (a / 2) v u e (λ g. f (ap suc g)))

pub set-fits : (n a v : ℕ) → a < 2 ^ n → v < n → bit a v ≡ 0 → a + 2 ^ v < 2 ^ n
unfolding bit
set-fits zero a v l m e = absurd (not-suc-le-zero m)
set-fits (suc n) a zero l m e = let t = twice n in omega arith
set-fits (suc n) a (suc v) l m e =
    let t = twice n in
    let t' = twice v in
    let r = set-fits n (a / 2) v (omega arith) (le_of_suc-le-suc m) e in
    omega arith

pub seen-unset : (s o v : ℕ) → bit s v ≡ 0 → seen s o v ≡ 2
unfolding seen
seen-unset s o v e = rw (eq-eqb (bit s v) 0 e)

pub seen-set : (s o v : ℕ) → (bit s v ≡ 0 → ⊥) → seen s o v ≡ bit o v
unfolding seen
seen-set s o v e = rw (ne_eqb (bit s v) 0 e)
