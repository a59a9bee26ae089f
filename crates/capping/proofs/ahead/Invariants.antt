-- What comes before the limit is at most it in each place as long as the bound is equal to it; where the bound is below, the rest is free; where above,
-- nothing comes before.
-- Invariant: Ahead j, and `cap` has K places.
use mathlib.Core.Path.{◌≡◌}
use lib.ListN.{length}
use Rattle.capping.proofs.CapLaws.{Ahead}
use Rattle.capping.proofs.ahead.Given as goal

abbrev pub invariant-loop-j : goal.invariant-loop-j
invariant-loop-j g l = (length l.cap ≡ g.row.K) × Ahead l.k l.low l.top l.initial.cap l.cap l.j
