-- Laws of margins: what each kind's margin is, and that margins fit 64 bits.
use mathlib.Core.Path.{◌≡◌, refl, sym, ap, ◌∙◌, subst}
use mathlib.Core.Bool.{Bool, true, false, cond}
use Prim.Native.Nat.{ℕ, ◌+◌, ◌≤◌, zero-le}
use native.Mathlib.Omega.{arith}
use borrow.Author.Tests.{eq-eqb, ne_eqb, ltb-true, le-leb}
use lib.Dec.{T, eqb}
use lib.IntN.{ℤ, pos, negsuc, nat_abs, neg_ℤ, ◌-ℤ◌}
use lib.Signed.{lt_z, le_z}
use mir.Syntax.{w64}
use mir.Val.{SFits}
use Rattle.instance.specs.Limits.{max_bound}
use Rattle.instance.specs.Rows.{Entry, margin_of, margin, holds}
use Rattle.integers.proofs.SignedLaws.{abs-add, abs-parts, neg-parts, sfits-abs, lt_not_le, ≤ℤ-eq}

-- ---- sizes
pub neg-abs : (z : ℤ) → nat_abs (neg_ℤ z) ≡ nat_abs z
neg-abs z = omega (arith, abs-parts z, abs-parts (neg_ℤ z), neg-parts z)

pub sub-abs : (x y : ℤ) → nat_abs (x -ℤ y) ≤ nat_abs x + nat_abs y
sub-abs x y = omega (arith, abs-add x (neg_ℤ y), neg-abs y)

-- The difference of two numbers within the largest bound fits, and so does its opposite.
module _ (x y : ℤ) (h : nat_abs x ≤ max_bound) (l : nat_abs y ≤ max_bound) where
  pub sub-fits : SFits w64 (x -ℤ y)
  sub-fits = sfits-abs w64 (x -ℤ y) (omega (arith, sub-abs x y))

  pub neg-fits : SFits w64 (neg_ℤ (x -ℤ y))
  neg-fits = sfits-abs w64 (neg_ℤ (x -ℤ y)) (omega (arith, sub-abs x y, neg-abs (x -ℤ y)))

-- ---- margin_of
-- By the outcomes of the two tests of the kind.
abbrev picked : Bool → Bool → ℤ → ℤ → ℤ
picked two three s b = cond two (s -ℤ b) (cond three (b -ℤ s) (neg_ℤ (pos (nat_abs (s -ℤ b)))))

-- A negative number, and the opposite of any other, is minus its size.
pub neg-size : (z : ℤ) → lt_z z (pos 0) ≡ true → z ≡ neg_ℤ (pos (nat_abs z))
neg-size (pos n) t = absurd (omega (arith, ltb-true n 0 t))
neg-size (negsuc n) t = refl

pub pos-size : (z : ℤ) → lt_z z (pos 0) ≡ false → neg_ℤ z ≡ neg_ℤ (pos (nat_abs z))
pos-size (pos n) t = refl
pos-size (negsuc n) t = absurd (subst T t tt)

module _ (k : ℕ) (s b : ℤ) where
  pub margin-least : k ≡ 2 → s -ℤ b ≡ margin_of k s b
  margin-least e = sym (ap (λ (t : Bool). picked t (eqb k 3) s b) (eq-eqb k 2 e))

  pub margin-most : k ≡ 3 → b -ℤ s ≡ margin_of k s b
  margin-most e = sym (ap (λ (t : Bool). picked t (eqb k 3) s b) (ne_eqb k 2 (λ q. omega arith)) ∙ ap (λ (t : Bool). picked false t s b) (eq-eqb k 3 e))

  pub margin-equal : (k ≡ 2 → ⊥) → (k ≡ 3 → ⊥) → neg_ℤ (pos (nat_abs (s -ℤ b))) ≡ margin_of k s b
  margin-equal h l = sym (ap (λ (t : Bool). picked t (eqb k 3) s b) (ne_eqb k 2 h) ∙ ap (λ (t : Bool). picked false t s b) (ne_eqb k 3 l))

-- ---- holds
-- A margin below 0 breaks the row, and any other meets it.
below-zero : (z : ℤ) → lt_z z (pos 0) ≡ true → le_z (pos 0) z ≡ false
below-zero z t = lt_not_le z z (pos 0) (≤ℤ-eq {x = z} refl) t

from_zero : (z : ℤ) → lt_z z (pos 0) ≡ false → le_z (pos 0) z ≡ true
from_zero (pos n) t = le-leb 0 n zero-le
from_zero (negsuc n) t = absurd (subst T t tt)

module _ (e : Entry) (a : ℕ) (z : ℤ) (s : z ≡ margin e a) where
  pub row-breaks : lt_z z (pos 0) ≡ true → holds e a ≡ false
  row-breaks t = below-zero (margin e a) (subst (λ (x : ℤ). lt_z x (pos 0) ≡ true) s t)

  pub row-meets : lt_z z (pos 0) ≡ false → holds e a ≡ true
  row-meets t = from_zero (margin e a) (subst (λ (x : ℤ). lt_z x (pos 0) ≡ false) s t)
