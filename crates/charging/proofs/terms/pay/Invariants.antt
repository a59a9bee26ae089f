-- Each step takes m off at one more term and raises nothing, so what was taken off stays off.
-- Invariant: Paid over the terms so far.
use lib.ListN.{length}
use Rattle.charging.specs.Rows.{Paid}
use Rattle.charging.proofs.terms.pay.Given as goal

abbrev pub invariant-loop-term : goal.invariant-loop-term
invariant-loop-term l = Paid (length l.costs) l.terms l.costs l.term-index l.m l.initial.res l.res
