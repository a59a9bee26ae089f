-- With all variables settled no wanted number is smaller.
-- Invariant: the variables from v up are settled (Lowered).
use Rattle.forcing.specs.Goals.{Wanted}
use Rattle.lowering.specs.Smallest.{Lowered}
use Rattle.lowering.proofs.smallest.Given as goal

abbrev pub invariant-loop-v : goal.invariant-loop-v
invariant-loop-v l = Lowered l.goal.rows.n (Wanted l.goal) l.v l.known.part l.known.number
