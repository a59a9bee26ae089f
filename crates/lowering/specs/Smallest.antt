-- Document 01, 'The front': the witness is the smallest number of an assignment with that vector. Bit v of the number is the variable v.
use Rattle.std.specs.Prelude.{◌≡◌, ℕ, ◌/◌, ◌^◌, ◌≤◌, ◌<◌}
use Rattle.charging.specs.declared.parts.Part.{Part}
use Rattle.charging.specs.Rows.{bit, of}
use Rattle.narrowing.specs.Parts.{Good}

-- The assignment numbered a is wanted, and of the wanted ones of n variables it has the smallest number.
pub record Smallest (n : ℕ) (W : (ℕ → ℕ) → Type 0) (a : ℕ) : Type 0 where
  pub wanted : W (bit a)
  pub fits : a < 2 ^ n
  pub least : (x : ℕ) → x < 2 ^ n → W (bit x) → a ≤ x

-- The assignment numbered a is wanted; p has its variables from v up, and by these alone no wanted one has a smaller number.
pub record Lowered (n : ℕ) (W : (ℕ → ℕ) → Type 0) (v : ℕ) (p : Part) (a : ℕ) : Type 0 where
  pub good : Good n p
  pub below : (u : ℕ) → u < v → of p u ≡ 2
  pub above : (u : ℕ) → v ≤ u → u < n → of p u ≡ bit a u
  pub wanted : W (bit a)
  pub fits : a < 2 ^ n
  pub least : (x : ℕ) → x < 2 ^ n → W (bit x) → a / 2 ^ v ≤ x / 2 ^ v
