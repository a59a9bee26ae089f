-- Signed numbers. Their bits: what is read back of a number that fits is the number. Their two natural parts, so that `omega` reads
-- them: z is up z - dn z, and one of the two is 0.
use mathlib.Core.Path.{◌≡◌, refl, sym, ap, ◌∙◌, subst}
use mathlib.Core.Logic.{◌⊎◌, inl, inr}
use native.Mathlib.Decide.{dec_lt}
use native.Mathlib.Nat.{lt_of_le_of_lt, add-zero}
use mathlib.Core.Bool.{Bool, true, false, cond}
use Prim.Native.Nat.{ℕ, zero, suc, ◌+◌, ◌-◌, ◌^◌, ◌≤◌, ◌<◌, zero-le}
use native.Mathlib.Omega.{arith}
use lib.Dec.{T, ltb, leb, leb→le, le→leb}
use lib.IntN.{ℤ, pos, negsuc, nat_abs, neg_ℤ, sub_ℕ, ◌+ℤ◌, ◌-ℤ◌}
use lib.Signed.{mag, lt_z, le_z, non_neg, ◌≤ℤ◌}
use borrow.Author.Tests.{lt-ltb, le-ltb, ltb-true, le-leb, lt-leb}
use mir.Syntax.{Width}
use mir.Val.{SFits, Fits, to_z, of_z, hbits}
use mir.Facts.{to_z-of_z}

abbrev pub up : ℤ → ℕ
up (pos n) = n
up (negsuc n) = 0

abbrev pub dn : ℤ → ℕ
dn (pos n) = 0
dn (negsuc n) = suc n

pub sub-ge : (a b : ℕ) → b ≤ a → sub_ℕ a b ≡ pos (a - b)
sub-ge a b h = ap (λ (t : Bool). cond t (negsuc (b - suc a)) (pos (a - b))) (le-ltb a b h)

pub sub-lt : (a b : ℕ) → a < b → sub_ℕ a b ≡ negsuc (b - suc a)
sub-lt a b h = ap (λ (t : Bool). cond t (negsuc (b - suc a)) (pos (a - b))) (lt-ltb a b h)

-- what is read back from the bits of z, where z is a number z' that fits
module _ {w : Width} {z z' : ℤ} (e : z ≡ z') (f : SFits w z') where
  pub fits-as : SFits w z
  fits-as = subst (SFits w) (sym e) f

  pub read_as : to_z w (of_z w z) ≡ z'
  read_as = ap (λ (x : ℤ). to_z w (of_z w x)) e ∙ to_z-of_z f

-- a cast of a number that is not negative to an unsigned type
pub cast-as : {w' : Width} {z : ℤ} {n : ℕ} → z ≡ pos n → Fits w' n → T (non_neg z) × Fits w' (nat_abs z)
cast-as {w'} e f = subst (λ (x : ℤ). T (non_neg x) × Fits w' (nat_abs x)) (sym e) (tt, f)

-- a fact of what is read back from the bits of z is one of z, and the other way
module _ {w : Width} {z : ℤ} (P : ℤ → Type 0) (f : SFits w z) where
  pub plain : P (to_z w (of_z w z)) → P z
  plain p = subst P (to_z-of_z f) p

  pub coded : P z → P (to_z w (of_z w z))
  coded p = subst P (sym (to_z-of_z f)) p

-- what is read back of a call's result r, which is the number z
module _ (w : Width) {r z : ℤ} (e : r ≡ z) (f : mag r < 2 ^ hbits w) where
  pub result_as : to_z w (of_z w r) ≡ z
  result_as = to_z-of_z (record { sfits = f }) ∙ e

-- a number whose bits are 0
pub zero_bits : (w : Width) {z : ℤ} → mag z < 2 ^ hbits w → of_z w z ≡ 0 → z ≡ pos 0
zero_bits w f e =
    sym (to_z-of_z (record { sfits = f })) ∙ (ap (to_z w) e ∙ to_z-of_z {w = w} {z = pos 0} (record { sfits = omega (arith, f) }))

-- ---- the two parts of a sum, for `omega`
le_of_not_lt : {a b : ℕ} → (a < b → ⊥) → b ≤ a
le_of_not_lt h = omega arith

pub sub_cases : (a b : ℕ) (P : ℤ → Type 0) → (b ≤ a → P (pos (a - b))) → (a < b → P (negsuc (b - suc a))) → P (sub_ℕ a b)
sub_cases a b P f g = pick (dec_lt a b)
  where
    pick : Dec (a < b) → P (sub_ℕ a b)
    pick (yes h) = subst P (sym (sub-lt a b h)) (g h)
    pick (no h) = subst P (sym (sub-ge a b (le_of_not_lt h))) (f (le_of_not_lt h))

-- up (a - b) + b ≡ dn (a - b) + a, and the smaller part is 0
pub parts-sub : (a b : ℕ) → up (sub_ℕ a b) + b ≡ dn (sub_ℕ a b) + a
parts-sub a b = sub_cases a b (λ (z : ℤ). up z + b ≡ dn z + a) (λ h. omega arith) (λ h. omega arith)

pub parts_add : (x y : ℤ) → up (x +ℤ y) + (dn x + dn y) ≡ dn (x +ℤ y) + (up x + up y)
parts_add (pos a) (pos b) = omega arith
parts_add (pos a) (negsuc b) = omega (arith, parts-sub a (suc b))
parts_add (negsuc a) (pos b) = omega (arith, parts-sub b (suc a))
parts_add (negsuc a) (negsuc b) = omega arith

pub sub_small : (a b : ℕ) → (up (sub_ℕ a b) ≤ a) × (dn (sub_ℕ a b) ≤ b)
sub_small a b = sub_cases a b (λ (z : ℤ). (up z ≤ a) × (dn z ≤ b)) (λ h. omega arith) (λ h. omega arith)

-- each part of a sum is at most the sum of the parts
pub add_small : (x y : ℤ) → (up (x +ℤ y) ≤ up x + up y) × (dn (x +ℤ y) ≤ dn x + dn y)
add_small (pos a) (pos b) = omega arith
add_small (pos a) (negsuc b) = omega (arith, sub_small a (suc b))
add_small (negsuc a) (pos b) = omega (arith, sub_small b (suc a))
add_small (negsuc a) (negsuc b) = omega arith

pub abs-parts : (z : ℤ) → nat_abs z ≡ up z + dn z
abs-parts (pos n) = omega arith
abs-parts (negsuc n) = omega arith

pub neg-parts : (z : ℤ) → (up (neg_ℤ z) ≡ dn z) × (dn (neg_ℤ z) ≡ up z)
neg-parts (pos zero) = (refl, refl)
neg-parts (pos (suc n)) = (refl, refl)
neg-parts (negsuc n) = (refl, refl)

-- one of the two parts is 0
pub one-part : (z : ℤ) → (up z ≡ 0) ⊎ (dn z ≡ 0)
one-part (pos n) = inr refl
one-part (negsuc n) = inl refl

-- a number is its parts
pub same_parts : (x y : ℤ) → up x + dn y ≡ up y + dn x → x ≡ y
same_parts (pos a) (pos b) h = ap pos (omega arith)
same_parts (pos a) (negsuc b) h = absurd (omega arith)
same_parts (negsuc a) (pos b) h = absurd (omega arith)
same_parts (negsuc a) (negsuc b) h = ap negsuc (omega arith)

-- the tests, by the parts
pub lt-parts : (x y : ℤ) → lt_z x y ≡ ltb (up x + dn y) (up y + dn x)
lt-parts (pos a) (pos b) = simp add-zero
lt-parts (pos a) (negsuc b) = sym (le-ltb (a + suc b) (0 + 0) (omega arith))
lt-parts (negsuc a) (pos b) = sym (lt-ltb (0 + 0) (b + suc a) (omega arith))
lt-parts (negsuc a) (negsuc b) = by (dec_lt b a)
  where
    by : Dec (b < a) → ltb b a ≡ ltb (0 + suc b) (0 + suc a)
    by (yes h) = lt-ltb b a h ∙ sym (lt-ltb (0 + suc b) (0 + suc a) (omega arith))
    by (no h) = le-ltb b a (le_of_not_lt h) ∙ sym (le-ltb (0 + suc b) (0 + suc a) (omega (arith, le_of_not_lt h)))

pub le_parts : (x y : ℤ) → le_z x y ≡ leb (up x + dn y) (up y + dn x)
le_parts (pos a) (pos b) = simp add-zero
le_parts (pos a) (negsuc b) = sym (lt-leb (a + suc b) (0 + 0) (omega arith))
le_parts (negsuc a) (pos b) = sym (le-leb (0 + 0) (b + suc a) (omega arith))
le_parts (negsuc a) (negsuc b) = by (dec_lt a b)
  where
    by : Dec (a < b) → leb b a ≡ leb (0 + suc b) (0 + suc a)
    by (yes h) = lt-leb b a h ∙ sym (lt-leb (0 + suc b) (0 + suc a) (omega arith))
    by (no h) = le-leb b a (le_of_not_lt h) ∙ sym (le-leb (0 + suc b) (0 + suc a) (omega (arith, le_of_not_lt h)))

-- the range of a signed type, by the parts
pub sfits-parts : (w : Width) (z : ℤ) → up z < 2 ^ hbits w → dn z ≤ 2 ^ hbits w → SFits w z
sfits-parts w (pos n) h k = record { sfits = h }
sfits-parts w (negsuc n) h k = record { sfits = k }

pub parts-sfits : (w : Width) (z : ℤ) → SFits w z → (up z < 2 ^ hbits w) × (dn z ≤ 2 ^ hbits w)
parts-sfits w (pos n) f = (f.sfits, zero-le)
parts-sfits w (negsuc n) f = (lt_of_le_of_lt zero-le f.sfits, f.sfits)

-- ---- bounds by the absolute value
pub abs-add : (x y : ℤ) → nat_abs (x +ℤ y) ≤ nat_abs x + nat_abs y
abs-add x y = omega (arith, abs-parts x, abs-parts y, abs-parts (x +ℤ y), add_small x y)

pub sfits-abs : (w : Width) (z : ℤ) → nat_abs z < 2 ^ hbits w → SFits w z
sfits-abs w (pos n) h = record { sfits = h }
sfits-abs w (negsuc n) h = record { sfits = omega arith }

-- -1 - z, of a negative z
pub neg-index : (z : ℤ) → lt_z z (pos 0) ≡ true → negsuc 0 -ℤ z ≡ pos (nat_abs z - 1)
neg-index (pos n) t = absurd (omega (arith, ltb-true n 0 t))
neg-index (negsuc n) t = sub-ge (suc n) 1 (omega arith)

-- the sign test, as a fact
pub neg-not : (z : ℤ) → lt_z z (pos 0) ≡ true → T (non_neg z) → ⊥
neg-not (pos n) t h = omega (arith, ltb-true n 0 t)
neg-not (negsuc n) t h = h

pub pos-yes : (z : ℤ) → lt_z z (pos 0) ≡ false → T (non_neg z)
pos-yes (pos n) t = tt
pos-yes (negsuc n) t = subst T t tt

pub neg-one : (z : ℤ) → lt_z z (pos 0) ≡ true → 1 ≤ nat_abs z
neg-one (pos n) t = absurd (omega (arith, ltb-true n 0 t))
neg-one (negsuc n) t = omega arith

-- ---- the order, by the parts: to `omega` and back
pub le-to : {x y : ℤ} → x ≤ℤ y → up x + dn y ≤ up y + dn x
le-to {x} {y} h = leb→le (up x + dn y) (up y + dn x) (subst T (le_parts x y) h.le)

pub le_from : {x y : ℤ} → up x + dn y ≤ up y + dn x → x ≤ℤ y
le_from {x} {y} h = record { le = subst T (sym (le_parts x y)) (le→leb (up x + dn y) (up y + dn x) h) }

pub ≤ℤ-add : {x y z w : ℤ} → x ≤ℤ y → z ≤ℤ w → (x +ℤ z) ≤ℤ (y +ℤ w)
≤ℤ-add {x} {y} {z} {w} h k = le_from (omega (arith, le-to h, le-to k, parts_add x z, parts_add y w))

pub ≤ℤ-trans : {x y z : ℤ} → x ≤ℤ y → y ≤ℤ z → x ≤ℤ z
≤ℤ-trans {x} {y} {z} h k = le_from (omega (arith, le-to h, le-to k))

pub ≤ℤ-eq : {x y : ℤ} → x ≡ y → x ≤ℤ y
≤ℤ-eq {x} {y} e = subst (λ (z : ℤ). x ≤ℤ z) e (le_from (omega arith))

pub lt_not_le : (x m b : ℤ) → x ≤ℤ m → lt_z m b ≡ true → le_z b x ≡ false
lt_not_le x m b h t = le_parts b x ∙ lt-leb (up b + dn x) (up x + dn b) (omega (arith, le-to h, ltb-true (up m + dn b) (up b + dn m) (sym (lt-parts m b) ∙ t)))

-- ---- bits that are a number's own

-- a small natural number is its own bits
pub bits-value : (w : Width) (n : ℕ) → n < 2 ^ hbits w → to_z w n ≡ pos n
bits-value w n h = to_z-of_z {w = w} {z = pos n} (record { sfits = h })

pub abs_neg : (z : ℤ) → nat_abs (neg_ℤ z) ≡ nat_abs z
abs_neg z = omega (arith, abs-parts z, abs-parts (neg_ℤ z), neg-parts z)
