-- Where the reach is below the need there is no completion; else each term that weighs more than the slack is needed.
-- Invariant: nothing that meets the rows is lost from p to q.
use Rattle.charging.specs.Meets.{Meets}
use Rattle.narrowing.specs.Parts.{Leads}
use Rattle.narrowing.proofs.row.Given as goal

abbrev pub invariant-loop-term : goal.invariant-loop-term
invariant-loop-term l = Leads l.rows.n (Meets l.rows) l.initial.q l.q
