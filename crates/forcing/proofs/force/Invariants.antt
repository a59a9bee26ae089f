-- The charged bound with the residual of a variable on its dear side bounds the cost; beyond the cap, the variable is on its cheap side.
-- Invariant: nothing under the cap is lost from p to q.
use Rattle.narrowing.specs.Parts.{Leads}
use Rattle.forcing.specs.Goals.{Under}
use Rattle.forcing.proofs.force.Given as goal

abbrev pub invariant-loop-v : goal.invariant-loop-v
invariant-loop-v l = Leads l.rows.n (Under l.rows l.costs l.cap) l.initial.q l.q
