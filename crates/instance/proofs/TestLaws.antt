-- Laws of `Decides`: what a flag tells in the arms of `if !flag`, and flags that decide; and of `is_kind`.
use mathlib.Core.Path.{◌≡◌, refl, subst, sym, ap, ◌∙◌}
use mathlib.Core.Bool.{Bool, true, false, ◌||◌}
use borrow.Author.Tests.{eqb-true, eq-eqb, ltb-true}
use Prim.Native.Nat.{ℕ}
use native.Mathlib.Omega.{arith}
use lib.Dec.{T, eqb}
use lib.IntN.{ℤ, pos, negsuc, nat_abs}
use lib.Signed.{lt_z, non_neg}
use Rattle.instance.specs.Tests.{Decides}
use Rattle.instance.specs.Tables.{is_kind}

-- ---- Decides
module _ {t : Bool} {P : Type 0} (d : Decides t P) where
  pub refused : t ≡ false → P → ⊥
  refused e = d.no e

  pub accepted : t ≡ true → P
  accepted e = d.yes e

pub holds : {P : Type 0} → P → Decides true P
holds p = record { yes = λ e. p; no = λ e. absurd (subst T e tt) }

pub fails : {P : Type 0} → (P → ⊥) → Decides false P
fails n = record { yes = λ e. absurd (subst T (sym e) tt); no = λ e. n }

-- ---- is_kind
pub is_kind-true : (n : ℕ) (z : ℤ) → is_kind n z ≡ true → z ≡ pos n
is_kind-true n (pos m) e = ap pos (eqb-true m n e)
is_kind-true n (negsuc m) e = absurd (subst T (sym e) tt)

pub is_kind-pos : (n : ℕ) (z : ℤ) → z ≡ pos n → is_kind n z ≡ true
is_kind-pos n z e = subst (λ (x : ℤ). is_kind n x ≡ true) (sym e) (eq-eqb n n refl)

-- A test by `is_kind` decides whether z is the number n.
pub is_kind-decides : {t : Bool} (n : ℕ) (z : ℤ) → t ≡ is_kind n z → Decides t (z ≡ pos n)
is_kind-decides n z e = record { yes = λ y. is_kind-true n z (sym e ∙ y); no = λ y h. absurd (subst T (sym (is_kind-pos n z h) ∙ (sym e ∙ y)) tt) }

pub is_kind-neg : (n : ℕ) (z : ℤ) → lt_z z (pos 0) ≡ true → is_kind n z ≡ false
is_kind-neg n (pos m) e = absurd (omega (arith, ltb-true m 0 e))
is_kind-neg n (negsuc m) e = refl

pub is_kind-natural : (n : ℕ) (z : ℤ) → T (non_neg z) → is_kind n z ≡ eqb (nat_abs z) n
is_kind-natural n (pos m) h = refl
is_kind-natural n (negsuc m) h = absurd h

-- ---- or
pub or-first : {a : Bool} (b : Bool) → a ≡ true → true ≡ a || b
or-first b e = ap (λ (t : Bool). t || b) (sym e)

pub or-next : {a b : Bool} → a ≡ false → b ≡ a || b
or-next {b = b} e = ap (λ (t : Bool). t || b) (sym e)
