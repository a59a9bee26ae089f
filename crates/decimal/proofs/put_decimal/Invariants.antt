-- `decimal::put_decimal` meets its contract: the digits are stored from the last to the first, by `digit-step` and `digit-last`.
-- The loop's invariant: to write the digits of `rest` into `out` now gives what was asked, and `i` is the place of the last of them.
-- The measure is `rest`. Assumes nothing.
use mathlib.Core.Path.{◌≡◌}
use Prim.Native.Nat.{◌+◌, ◌≤◌, ◌<◌}
use lib.ListN.{length}
use Rattle.decimal.specs.Bytes.{overwrite}
use Rattle.decimal.specs.Decimal.{decimal}
use Rattle.decimal.proofs.put_decimal.Given as goal

abbrev pub invariant-loop-rest : goal.invariant-loop-rest
invariant-loop-rest l =
    (l.rest ≤ l.x)
    × (length l.out ≡ length l.initial.out)
    × (l.i < length l.initial.out)
    × (l.i + 1 ≡ l.at + length (decimal l.rest))
    × (overwrite l.out l.at (decimal l.rest) ≡ overwrite l.initial.out l.at (decimal l.x))

abbrev pub decreases-loop-rest : goal.decreases-loop-rest
decreases-loop-rest l = l.rest
