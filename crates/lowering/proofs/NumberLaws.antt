-- A number by its bits: a / 2 ^ v has the bits from v up, so two numbers are compared from the highest bit down.
use mathlib.Core.Path.{◌≡◌, ap, sym, ◌∙◌}
use Prim.Native.Nat.{ℕ, zero, suc, ◌+◌, ◌-◌, ◌/◌, ◌%◌, ◌^◌, ◌≤◌, ◌<◌}
use native.Mathlib.Nat.{div-eq_of_lt}
use native.Mathlib.Omega.{arith}
use lib.Pow.{shr-shr}
use Rattle.charging.specs.Rows.{bit}
use Rattle.charging.proofs.BitLaws.{bit_word}

-- the bits from v up are those from v + 1 up, and bit v
pub number_step : (a v : ℕ) → a / 2 ^ v ≡ a / 2 ^ (v + 1) + a / 2 ^ (v + 1) + bit a v
number_step a v =
    let e : a / 2 ^ (v + 1) ≡ a / 2 ^ v / 2 = sym (shr-shr a v 1) in
    let b = bit_word a v in
    omega arith

-- what agrees from v up has the same bits from v up
pub number-bits : (a x v u : ℕ) → a / 2 ^ v ≡ x / 2 ^ v → v ≤ u → bit a u ≡ bit x u
number-bits a x v u e l =
    let z : v + (u - v) ≡ u = omega arith in
    let p : (y : ℕ) → y / 2 ^ v / 2 ^ (u - v) ≡ y / 2 ^ u = λ y. shr-shr y v (u - v) ∙ ap (λ (i : ℕ). y / 2 ^ i) z in
    bit_word a u ∙ ap (λ (q : ℕ). q % 2) (sym (p a) ∙ ap (λ (q : ℕ). q / 2 ^ (u - v)) e ∙ p x) ∙ sym (bit_word x u)

-- numbers of v + m bits that have the same bits from v up agree from v up
pub number_same : (m v a x : ℕ) → a < 2 ^ (v + m) → x < 2 ^ (v + m) → ((u : ℕ) → v ≤ u → u < v + m → bit a u ≡ bit x u) → a / 2 ^ v ≡ x / 2 ^ v
number_same zero v a x l k f =
    let z : v + 0 ≡ v = omega arith in
    let e = div-eq_of_lt (rw z at l) in
    let g = div-eq_of_lt (rw z at k) in
    e ∙ sym g
number_same (suc m) v a x l k f =
    let z : v + suc m ≡ v + 1 + m = omega arith in
    let h = number_same m (v + 1) a x (rw z at l) (rw z at k) (λ u i j. f u (omega arith) (omega arith)) in
    let b = f v (omega arith) (omega arith) in
    omega (arith, number_step a v, number_step x v)
