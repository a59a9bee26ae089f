-- Invariant: the sum is the weight of the terms so far.
use mathlib.Core.Path.{◌≡◌}
use Prim.Native.Nat.{◌*◌, ◌≤◌}
use Rattle.instance.specs.Limits.{max_coef}
use Rattle.normal.specs.Ceilings.{weights_in}
use Rattle.normal.proofs.heaps.weight_of.Given as goal

abbrev pub invariant-loop-t : goal.invariant-loop-t
invariant-loop-t l = (l.sum ≡ weights_in l.terms l.t-index) × (l.sum ≤ l.t-index * max_coef)
