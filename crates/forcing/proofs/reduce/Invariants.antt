-- Rows and caps lose nothing that is wanted, however often they are asked.
-- Invariant: nothing is lost from p to q. Measure: the unset variables, which fall until nothing more is set.
use Rattle.narrowing.specs.Parts.{Leads}
use Rattle.forcing.specs.Goals.{Wanted}
use Rattle.forcing.proofs.reduce.Given as goal

abbrev pub invariant-loop-r : goal.invariant-loop-r
invariant-loop-r l = Leads l.goal.rows.n (Wanted l.goal) l.initial.q l.q

abbrev pub decreases-loop-r : goal.decreases-loop-r
decreases-loop-r l = l.q.left
