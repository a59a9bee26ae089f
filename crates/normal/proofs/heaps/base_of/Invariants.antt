-- Invariant: the sum is the base of the variables so far.
use mathlib.Core.Path.{◌≡◌}
use Prim.Native.Nat.{◌*◌, ◌^◌, ◌≤◌}
use Rattle.normal.specs.Costs.{base_of}
use Rattle.normal.proofs.heaps.base_of.Given as goal

abbrev pub invariant-loop-v : goal.invariant-loop-v
invariant-loop-v l = (l.sum ≡ base_of l.v l.sides) × (l.sum ≤ l.v * 2 ^ 34)
