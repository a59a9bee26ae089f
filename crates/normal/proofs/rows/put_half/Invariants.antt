-- The loop's invariant: the first k terms are laid out (HalfPut), and what was added is at most k times the largest coefficient.
use Prim.Native.Nat.{◌*◌, ◌≤◌}
use Rattle.instance.specs.Limits.{max_coef}
use Rattle.normal.specs.Rows.{HalfPut}
use Rattle.normal.proofs.rows.put_half.Given as goal

abbrev pub invariant-loop-k : goal.invariant-loop-k
invariant-loop-k l = HalfPut l.terms l.first l.k l.turn l.at l.initial.laid l.laid l.lost × (l.lost ≤ l.k * max_coef)
