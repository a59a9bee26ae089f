-- `decimal::decimal_len` meets its contract: each turn takes one digit off `rest` and counts it.
-- The loop's invariant: what is counted and the digits of `rest` are together those of `x`, and the last one. The measure is `rest`. Assumes nothing.
use mathlib.Core.Path.{◌≡◌}
use Prim.Native.Nat.{◌+◌, ◌≤◌}
use lib.ListN.{length}
use Rattle.decimal.specs.Decimal.{decimal}
use Rattle.decimal.proofs.decimal_len.Given as goal

abbrev pub invariant-loop-rest : goal.invariant-loop-rest
invariant-loop-rest l = (l.rest ≤ l.x) × (l.n + length (decimal l.rest) ≡ length (decimal l.x) + 1)

abbrev pub decreases-loop-rest : goal.decreases-loop-rest
decreases-loop-rest l = l.rest
