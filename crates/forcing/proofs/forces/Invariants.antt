-- Each objective loses nothing that is wanted.
-- Invariant: nothing is lost from p to q.
use Rattle.narrowing.specs.Parts.{Leads}
use Rattle.forcing.specs.Goals.{Wanted}
use Rattle.forcing.proofs.forces.Given as goal

abbrev pub invariant-loop-i : goal.invariant-loop-i
invariant-loop-i l = Leads l.goal.rows.n (Wanted l.goal) l.initial.q l.q
