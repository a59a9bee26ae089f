-- Trade after trade, the later of the best so far and the next.
-- Invariant: best is a greatest of the trades so far.
use Prim.Native.Nat.{◌<◌}
use lib.ListN.{length}
use Rattle.seeking.specs.Stocks.{Greatest}
use Rattle.seeking.proofs.stocks.greatest.Given as goal

abbrev pub invariant-loop-j : goal.invariant-loop-j
invariant-loop-j g l = (l.best < length l.trades) × Greatest l.k l.trades l.j l.best
