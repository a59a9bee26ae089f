-- Rows, caps and charges lose nothing that is wanted, however often they are asked.
-- Invariant: nothing is lost from p to q. Measure: the unset variables.
use lib.ListN.{length}
use Rattle.narrowing.specs.Parts.{Leads}
use Rattle.capping.specs.Caps.{Seeks}
use Rattle.seeking.proofs.reduce.Given as goal

abbrev pub invariant-loop-r : goal.invariant-loop-r
invariant-loop-r g l = Leads l.problem.rows.n (Seeks l.problem l.listed l.gathered (length l.gathered) l.limit) l.initial.q l.q

abbrev pub decreases-loop-r : goal.decreases-loop-r
decreases-loop-r g l = l.q.left
