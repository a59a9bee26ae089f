-- A number written from its last digit to its first, and an integer by its sign and its size. Assumes nothing.
use mathlib.Core.Path.{◌≡◌, refl, sym, ap, ◌∙◌, subst}
use mathlib.Core.Bool.{true, false}
use mathlib.Core.List.{List, [], ◌∷◌, ◌++◌}
use Prim.Native.Nat.{ℕ, ◌+◌, ◌/◌, ◌%◌, ◌^◌, ◌≤◌, ◌<◌}
use native.Mathlib.Omega.{arith}
use borrow.Author.Tests.{ltb-true}
use lib.Dec.{T}
use lib.IntN.{ℤ, pos, negsuc, nat_abs}
use lib.Signed.{lt_z}
use lib.ListN.{length, set}
use mir.Syntax.{w64}
use mir.Val.{SFits, to_z, of_z}
use Rattle.decimal.specs.Bytes.{overwrite}
use Rattle.decimal.specs.Decimal.{decimal, digit_byte, integer, signed, sign_byte}
use Rattle.decimal.proofs.DecimalLaws.{decimal-small, decimal-large, decimal-more, decimal-one}
use Rattle.decimal.proofs.OverwriteLaws.{overwrite-one, overwrite-last}
use Rattle.integers.proofs.SignedLaws.{plain}

-- ---- the digits, the last first: i is the place of the last digit that is not yet written

-- the last digit is stored: what is left to write is the rest of the digits
pub digit-step : (out : List ℕ) (at n i b : ℕ) → 10 ≤ n → n < 10 ^ 20 → i + 1 ≡ at + length (decimal n) → i < length out → b ≡ digit_byte (n % 10)
    → overwrite (set out i b) at (decimal (n / 10)) ≡ overwrite out at (decimal n)
digit-step out at n i b l h e inside d =
    let ds : List ℕ = decimal (n / 10) in
    let place : i ≡ at + length ds = omega (arith, decimal-more n l h) in
    ap (λ (k : ℕ). overwrite (set out k b) at ds) place
    ∙ overwrite-last out at ds b (omega arith)
    ∙ ap (λ (y : ℕ). overwrite out at (ds ++ (y ∷ []))) d
    ∙ ap (overwrite out at) (sym (decimal-large n l h))

-- the first digit is stored: all is written
pub digit-last : (out : List ℕ) (at n i b : ℕ) → n < 10 → i + 1 ≡ at + length (decimal n) → i < length out → b ≡ digit_byte n
    → set out i b ≡ overwrite out at (decimal n)
digit-last out at n i b l e inside d =
    let place : i ≡ at = omega (arith, decimal-one n l) in
    ap (λ (k : ℕ). set out k b) place
    ∙ overwrite-one out at b (omega arith)
    ∙ ap (λ (y : ℕ). overwrite out at (y ∷ [])) d
    ∙ ap (overwrite out at) (sym (decimal-small n l))

-- ---- integer, signed, sign_byte: of z, and of z as it is read back from its bits

neg-text : (z : ℤ) (m : ℕ) → lt_z z (pos 0) ≡ true → m ≡ nat_abs z → 45 ∷ decimal m ≡ integer z
neg-text (pos n) m t e = absurd (omega (arith, ltb-true n 0 t))
neg-text (negsuc n) m t e = ap (λ (k : ℕ). 45 ∷ decimal k) e

pos-text : (z : ℤ) (m : ℕ) → lt_z z (pos 0) ≡ false → m ≡ nat_abs z → decimal m ≡ integer z
pos-text (pos n) m t e = ap decimal e
pos-text (negsuc n) m t e = absurd (subst T t tt)

neg-sign : (z : ℤ) → lt_z z (pos 0) ≡ true → 45 ≡ sign_byte z
neg-sign (pos n) t = absurd (omega (arith, ltb-true n 0 t))
neg-sign (negsuc n) t = refl

pos-sign : (z : ℤ) → lt_z z (pos 0) ≡ false → 43 ≡ sign_byte z
pos-sign (pos n) t = refl
pos-sign (negsuc n) t = absurd (subst T t tt)

module _ (z : ℤ) (f : SFits w64 z) where
  pub sign-neg : lt_z (to_z w64 (of_z w64 z)) (pos 0) ≡ true → 45 ≡ sign_byte z
  sign-neg t = neg-sign z (plain (λ (y : ℤ). lt_z y (pos 0) ≡ true) f t)

  pub sign_pos : lt_z (to_z w64 (of_z w64 z)) (pos 0) ≡ false → 43 ≡ sign_byte z
  sign_pos t = pos-sign z (plain (λ (y : ℤ). lt_z y (pos 0) ≡ false) f t)

-- m is the size of z
module _ (z : ℤ) (f : SFits w64 z) (m : ℕ) (size : m ≡ nat_abs (to_z w64 (of_z w64 z))) where
  abs : m ≡ nat_abs z
  abs = plain (λ (y : ℤ). m ≡ nat_abs y) f size

  pub integer-neg : lt_z (to_z w64 (of_z w64 z)) (pos 0) ≡ true → 45 ∷ decimal m ≡ integer z
  integer-neg t = neg-text z m (plain (λ (y : ℤ). lt_z y (pos 0) ≡ true) f t) abs

  pub integer-pos : lt_z (to_z w64 (of_z w64 z)) (pos 0) ≡ false → decimal m ≡ integer z
  integer-pos t = pos-text z m (plain (λ (y : ℤ). lt_z y (pos 0) ≡ false) f t) abs

  pub signed-as : (b : ℕ) → b ≡ sign_byte (to_z w64 (of_z w64 z)) → b ∷ decimal m ≡ signed z
  signed-as b e =
      ap (λ (y : ℕ). y ∷ decimal m) (plain (λ (y : ℤ). b ≡ sign_byte y) f e)
      ∙ ap (λ (k : ℕ). sign_byte z ∷ decimal k) abs
