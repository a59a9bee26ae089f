-- Invariant (Taking): the tables hold the entries so far, and what is left of the text decides what the whole text says. Each way out reads off
-- what the definition says there. Measure: what is left of the text; each statement has at least its `;`.
use lib.ListN.{length}
use Rattle.reading.proofs.ReadLaws.{Taking}
use Rattle.reading.proofs.texts.read_statements.Given as goal

abbrev pub invariant-loop-next : goal.invariant-loop-next
invariant-loop-next l = Taking l.text l.initial.terms l.initial.rows l.terms l.rows l.rest l.place l.number l.taken

abbrev pub decreases-loop-next : goal.decreases-loop-next
decreases-loop-next l = length l.rest
