-- Each step fills one more place.
-- Invariant: Owed for the variables so far.
use Rattle.charging.specs.Rows.{of, Owed}
use Rattle.charging.proofs.charges.owed.Given as goal

abbrev pub invariant-loop-v : goal.invariant-loop-v
invariant-loop-v l = Owed l.v (of l.p) l.costs l.res
