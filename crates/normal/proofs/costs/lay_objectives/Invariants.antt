-- Invariant (Priced): the objectives so far are laid out.
use Prim.Native.Nat.{ℕ, ◌<◌}
use Rattle.charging.specs.Rows.{costs_of}
use Rattle.normal.specs.Costs.{Priced}
use Rattle.normal.proofs.costs.lay_objectives.Given as goal

abbrev pub invariant-loop-i : goal.invariant-loop-i
invariant-loop-i l = (j : ℕ) → j < l.i → Priced l.terms l.rows l.n j (costs_of l.n l.costs j)
