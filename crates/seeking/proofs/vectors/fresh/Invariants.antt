-- One trade after the other.
-- Invariant: the trades so far leave f alone.
use Rattle.capping.specs.Caps.{at, Fresh}
use Rattle.seeking.proofs.vectors.fresh.Given as goal

abbrev pub invariant-loop-trade : goal.invariant-loop-trade
invariant-loop-trade g l = Fresh l.k l.trades l.trade-index (at l.f)
