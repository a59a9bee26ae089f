-- Invariant (RunIs): the terms so far lead from the start to what is left, are stored, and the flags and the highest variable are theirs.
-- Measure: what is left of the text; each term has at least one byte.
use lib.ListN.{length}
use Rattle.reading.specs.Steps.{RunIs}
use Rattle.reading.proofs.terms.read_terms.Given as goal

abbrev pub invariant-loop-stop : goal.invariant-loop-stop
invariant-loop-stop l = RunIs l.text l.base l.initial.terms l.terms l.run

abbrev pub decreases-loop-stop : goal.decreases-loop-stop
decreases-loop-stop l = length l.run.rest.now
