-- A charged bound for each objective.
-- Invariant: Low for the objectives so far.
use Rattle.capping.specs.Caps.{Low}
use Rattle.capping.proofs.charges.Given as goal

abbrev pub invariant-loop-i : goal.invariant-loop-i
invariant-loop-i g l = Low l.problem l.i l.p l.low
