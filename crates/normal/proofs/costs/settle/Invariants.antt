-- Invariant: the variables so far have the costs of their sides.
use mathlib.Core.Path.{◌≡◌}
use Prim.Native.Nat.{ℕ, ◌<◌}
use lib.ListN.{get_or}
use Rattle.charging.specs.Rows.{no_cost}
use Rattle.normal.specs.Costs.{no_sides, cost_of}
use Rattle.normal.proofs.costs.settle.Given as goal

abbrev pub invariant-loop-v : goal.invariant-loop-v
invariant-loop-v l = (u : ℕ) → u < l.v → get_or l.costs u no_cost ≡ cost_of (get_or l.sides u no_sides)
