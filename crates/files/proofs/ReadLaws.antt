-- What reading concludes: where a value of a point stands, and what a sound file gives.
use mathlib.Core.Path.{◌≡◌, ap₂}
use mathlib.Core.List.{List}
use Prim.Native.Nat.{ℕ, ◌+◌, ◌*◌, ◌/◌, ◌%◌, ◌≤◌, ◌<◌}
use native.Mathlib.Omega.{arith}
use lib.ListN.{length}
use Rattle.blocks.specs.Fields.{signed_of, u64_at}
use Rattle.files.specs.Layout.{block_at, place_of, blocks_in, blocks_for, value_in}
use Rattle.files.specs.Taken.{Sound, points}

-- Value q of point k.
pub value-place : (f : List ℕ) (k q : ℕ) → q < 4 → signed_of (u64_at (block_at f (k / 12 + 1)) (place_of k + q * 8)) ≡ value_in f (k * 4 + q)
value-place f k q h =
    let e : k ≡ (k * 4 + q) / 4 = omega arith in
    let d : q ≡ (k * 4 + q) % 4 = omega arith in
    ap₂ (λ (j i : ℕ). signed_of (u64_at (block_at f (j / 12 + 1)) (place_of j + i * 8))) e d

-- ---- what a sound file gives
module _ {f : List ℕ} (s : Sound f) where
  pub sound-blocks : 1 ≤ blocks_in f
  sound-blocks = omega (arith, s.sized.some, s.sized.whole)

  pub sound-total : blocks_for (points f) ≡ blocks_in f
  sound-total = (s.laid 0 sound-blocks).total

  pub sound-room : blocks_for (points f) * 512 ≤ length f
  sound-room = omega (arith, sound-total)
