-- Invariant: the dearest so far has a side.
use Prim.Native.Nat.{◌<◌}
use Rattle.finding.proofs.hints.cheaper.Given as goal

abbrev pub invariant-loop-i : goal.invariant-loop-i
invariant-loop-i l = l.dearest.dear < 2
