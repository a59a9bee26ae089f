-- The start is the cost that is sure with all of the rest owed; each row adds what it takes off the rest.
-- Invariant: `bound` and `res` are a bound so far, and `bound` is small.
use Prim.Native.Nat.{◌≤◌, ◌+◌, ◌*◌, ◌^◌}
use Rattle.charging.specs.Rows.{of}
use Rattle.charging.specs.Meets.{Charged}
use Rattle.charging.proofs.charges.charge.Given as goal

abbrev pub invariant-loop-i : goal.invariant-loop-i
invariant-loop-i l = (l.bound ≤ 64 * 2 ^ 34 + l.i * 2 ^ 34) × Charged l.rows l.costs (of l.p) l.bound l.res
