-- What is sure is a lower bound, and the cost of a complete part.
-- Invariant: the objectives so far are within their caps.
use Prim.Native.Nat.{ℕ, ◌≤◌, ◌<◌}
use Rattle.charging.specs.Rows.{of, cost}
use Rattle.forcing.specs.Goals.{objective, cap_of}
use Rattle.finding.proofs.cheap.Given as goal

abbrev pub invariant-loop-i : goal.invariant-loop-i
invariant-loop-i l = (j : ℕ) → j < l.i → cost (objective l.goal j) (of l.p) ≤ cap_of l.goal j
