-- Invariant (Spread): under each assignment the sides come to what the terms so far give; there are two for each variable there can be.
use mathlib.Core.Path.{◌≡◌}
use lib.ListN.{length}
use Rattle.normal.specs.Costs.{Spread}
use Rattle.normal.proofs.costs.lay_objective.Given as goal

abbrev pub invariant-loop-k : goal.invariant-loop-k
invariant-loop-k l = (length l.sides ≡ 64) × Spread l.terms l.e.first l.k (length l.costs) l.sides
