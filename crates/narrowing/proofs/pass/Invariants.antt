-- Each row loses nothing that meets the rows.
-- Invariant: nothing is lost from p to q.
use Rattle.charging.specs.Meets.{Meets}
use Rattle.narrowing.specs.Parts.{Leads}
use Rattle.narrowing.proofs.pass.Given as goal

abbrev pub invariant-loop-i : goal.invariant-loop-i
invariant-loop-i l = Leads l.rows.n (Meets l.rows) l.initial.q l.q
