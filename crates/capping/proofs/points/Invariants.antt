-- One trade after the other.
-- Invariant: the caps are tight for the trades so far.
use Rattle.std.specs.Prelude.{Some}
use Rattle.capping.specs.Caps.{Fresh, Tight}
use Rattle.capping.proofs.points.Given as goal

abbrev pub invariant-loop-trade : goal.invariant-loop-trade
invariant-loop-trade g l = Tight l.k l.low l.initial.cap (Fresh l.k l.trades l.trade-index) (Some l.cap)
