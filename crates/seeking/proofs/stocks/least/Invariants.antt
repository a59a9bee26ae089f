-- Trade after trade, the earlier of the best so far and the next.
-- Invariant: best is a least of the trades so far.
use Prim.Native.Nat.{◌<◌, ◌≤◌}
use lib.ListN.{length}
use Rattle.seeking.specs.Stocks.{Least}
use Rattle.seeking.proofs.stocks.least.Given as goal

abbrev pub invariant-loop-j : goal.invariant-loop-j
invariant-loop-j g l = (1 ≤ length l.trades → l.best < length l.trades) × Least l.k l.trades l.j l.best
