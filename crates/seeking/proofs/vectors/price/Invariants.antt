-- The cost that is sure, for each objective.
-- Invariant: the objectives so far are priced, and there are K places.
use mathlib.Core.Path.{◌≡◌}
use lib.ListN.{length}
use Rattle.charging.specs.Rows.{of}
use Rattle.capping.specs.Caps.{vec, at}
use Rattle.seeking.specs.Stocks.{Same}
use Rattle.seeking.proofs.vectors.price.Given as goal

abbrev pub invariant-loop-i : goal.invariant-loop-i
invariant-loop-i g l = (length l.costs ≡ g.row.K) × Same l.i (at l.costs) (vec l.problem (of l.p))
