-- A point that the bound leaves one place to be beaten at must be beaten there; with no such place it dominates everything here.
-- Invariant: Single, the one place so far.
use Rattle.capping.proofs.CapLaws.{Single}
use Rattle.capping.proofs.point.Given as goal

abbrev pub invariant-loop-i : goal.invariant-loop-i
invariant-loop-i g l = Single l.low l.costs l.only l.i
