-- The first unset variable of the order; where it names none, a scan over all finds one or shows that none is.
-- Invariant: no variable so far is unset.
use mathlib.Core.Path.{◌≡◌}
use Prim.Native.Nat.{ℕ, ◌<◌}
use Rattle.charging.specs.Rows.{of}
use Rattle.finding.proofs.hints.branch.Given as goal

abbrev pub invariant-loop-v : goal.invariant-loop-v
invariant-loop-v l = (k : ℕ) → k < l.v → of l.p k ≡ 2 → ⊥
