-- What a literal's sign says of an assignment's bits.
use mathlib.Core.Path.{◌≡◌, ap, subst}
use mathlib.Core.Bool.{true, false, not}
use Prim.Native.Nat.{ℕ, ◌-◌}
use native.Mathlib.Omega.{arith}
use borrow.Author.Tests.{ltb-true}
use lib.Dec.{T}
use lib.IntN.{ℤ, pos, negsuc, nat_abs}
use lib.Signed.{lt_z}
use Rattle.instance.specs.Terms.{bit_set, lit_true}

-- ---- lit_true
pub literal-neg : (z : ℤ) (a j : ℕ) → lt_z z (pos 0) ≡ true → j ≡ nat_abs z - 1 → not (bit_set a j) ≡ lit_true z a
literal-neg (pos n) a j t e = absurd (omega (arith, ltb-true n 0 t))
literal-neg (negsuc n) a j t e = ap (λ (k : ℕ). not (bit_set a k)) (omega arith)

pub literal-pos : (z : ℤ) (a j : ℕ) → lt_z z (pos 0) ≡ false → j ≡ nat_abs z - 1 → bit_set a j ≡ lit_true z a
literal-pos (pos n) a j t e = ap (bit_set a) e
literal-pos (negsuc n) a j t e = absurd (subst T t tt)
