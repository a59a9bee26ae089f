-- Numbers in two blocks of bytes that are equal have equal bytes; and two's complement goes there and back.
use mathlib.Core.Path.{◌≡◌, ap, subst, ◌∙◌}
use mathlib.Core.Bool.{Bool, cond}
use mathlib.Core.List.{List}
use Prim.Native.Nat.{ℕ, zero, suc, ◌+◌, ◌-◌, ◌^◌, ◌≤◌, ◌<◌}
use native.Mathlib.Decide.{dec_lt}
use native.Mathlib.Nat.{pow-suc}
use native.Mathlib.Omega.{arith}
use borrow.Author.Tests.{lt-ltb, le-ltb}
use lib.IntN.{ℤ, pos, negsuc, nat_abs}
use Rattle.blocks.specs.Fields.{byte_at, number_at, signed_of, bits_of}
use Rattle.blocks.proofs.FieldLaws.{Agree}

-- Each number of the list is a byte.
abbrev pub Bytes : List ℕ → Type 0
Bytes bs = (i : ℕ) → byte_at bs i < 256

-- ---- sizes
pub number-small : (n : ℕ) (bs : List ℕ) → Bytes bs → (i : ℕ) → number_at n bs i < 256 ^ n
unfolding number_at
number-small zero bs h i = omega arith
number-small (suc n) bs h i = omega (arith, number-small n bs h i, h (i + n), pow-suc 256 n)

-- ---- equal numbers, equal bytes
pub number-bytes : (n : ℕ) (a b : List ℕ) → Bytes a → Bytes b → (i j : ℕ) → number_at n a i ≡ number_at n b j → Agree a i b j n
unfolding number_at
number-bytes zero a b ha hb i j e k l = absurd (omega arith)
number-bytes (suc n) a b ha hb i j e k l = by (number-bytes n a b ha hb i j (omega (arith, e, ha (i + n), hb (j + n)))) (dec_lt k n)
  where
    by : Agree a i b j n → Dec (k < n) → byte_at a (i + k) ≡ byte_at b (j + k)
    by f (yes h) = f k h
    by f (no h) =
        let last : byte_at a (i + n) ≡ byte_at b (j + n) = omega (arith, e, ha (i + n), hb (j + n)) in
        subst (λ (m : ℕ). byte_at a (i + m) ≡ byte_at b (j + m)) (omega arith) last

-- ---- two's complement
pick_pos : (u : ℕ) → u < 2 ^ 63 → signed_of u ≡ pos u
pick_pos u h = ap (λ (t : Bool). cond t (pos u) (negsuc (2 ^ 64 - suc u))) (lt-ltb u (2 ^ 63) h)

pub signed_high : (u : ℕ) → 2 ^ 63 ≤ u → signed_of u ≡ negsuc (2 ^ 64 - suc u)
signed_high u h = ap (λ (t : Bool). cond t (pos u) (negsuc (2 ^ 64 - suc u))) (le-ltb u (2 ^ 63) h)

pub signed-bits : (z : ℤ) → nat_abs z < 2 ^ 63 → signed_of (bits_of z) ≡ z
signed-bits (pos n) h = pick_pos n h
signed-bits (negsuc n) h = signed_high (2 ^ 64 - suc n) (omega arith) ∙ ap negsuc (omega arith)

pub bits-signed : (u : ℕ) → u < 2 ^ 64 → bits_of (signed_of u) ≡ u
bits-signed u l = by (dec_lt u (2 ^ 63))
  where
    by : Dec (u < 2 ^ 63) → bits_of (signed_of u) ≡ u
    by (yes h) = ap bits_of (pick_pos u h)
    by (no h) = ap bits_of (signed_high u (omega arith)) ∙ omega arith

pub bits-small : (z : ℤ) → nat_abs z ≤ 2 ^ 63 → bits_of z < 256 ^ 8
bits-small (pos n) h = omega arith
bits-small (negsuc n) h = omega arith
