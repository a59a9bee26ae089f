-- Invariant: sum is the cost of the variables so far, and they are Owed.
use mathlib.Core.Path.{◌≡◌}
use Prim.Native.Nat.{ℕ}
use Rattle.charging.specs.Rows.{hit, span, of, gap, dear, Owed}
use Rattle.charging.proofs.charges.begin.Given as goal

abbrev pub invariant-loop-v : goal.invariant-loop-v
invariant-loop-v l = (l.sum ≡ span (λ (v : ℕ). hit (of l.p v) (dear l.costs v) (gap l.costs v)) 0 l.v) × Owed l.v (of l.p) l.costs l.res
