-- `decimal::put_integer` meets its contract: below 0 the minus and then the size's digits are one write, by `overwrite-then`;
-- else the digits are all. Assumes nothing.
use mathlib.Core.Path.{◌≡◌, ap, ◌∙◌}
use mathlib.Core.List.{[], ◌∷◌}
use native.Mathlib.Omega.{arith}
use lib.ListN.{length}
use Rattle.decimal.specs.Bytes.{overwrite}
use Rattle.decimal.specs.Decimal.{decimal, integer}
use Rattle.decimal.proofs.OverwriteLaws.{overwrite-then}
use Rattle.decimal.proofs.PutLaws.{integer-neg, integer-pos}
use Rattle.decimal.proofs.put_integer.Goals.{Else-x-lt0, Then-x-lt0}
use Rattle.decimal.proofs.put_integer.Goals as goal

-- what is to be written, below 0 and else
neg-text : (t : Then-x-lt0) → 45 ∷ decimal t.unsigned_abs-size.result ≡ integer t.args.x
neg-text t =
    integer-neg t.args.x t.ranges.x t.unsigned_abs-size.result t.unsigned_abs-size.ensures.value t.if-x-lt0.true

pos-text : (t : Else-x-lt0) → decimal t.unsigned_abs-size.result ≡ integer t.args.x
pos-text t =
    integer-pos t.args.x t.ranges.x t.unsigned_abs-size.result t.unsigned_abs-size.ensures.value t.if-x-lt0.false

pub put_byte-from-requires : goal.put_byte-from-requires
put_byte-from-requires c = omega (arith, ap length (neg-text (goal.at.put_byte-from-requires c).Then-x-lt0))

pub put_decimal-requires : goal.put_decimal-requires
put_decimal-requires c =
    omega (arith, c.put_byte-from.auto, c.put_byte-from.ensures.next, ap length (neg-text (goal.at.put_decimal-requires c).Then-x-lt0))

pub returns-then-x-lt0 : goal.returns-then-x-lt0
returns-then-x-lt0 c =
    let size : length (45 ∷ decimal c.unsigned_abs-size.result) ≡ length (integer c.args.x) = ap length (neg-text (goal.at.returns-then-x-lt0 c).Then-x-lt0) in record {
      left = overwrite-then c.args.out.now c.args.at (45 ∷ []) (decimal c.unsigned_abs-size.result) (omega arith) c.put_byte-from.ensures.left c.put_byte-from.ensures.next c.put_decimal.ensures.left
          ∙ ap (overwrite c.args.out.now c.args.at) (neg-text (goal.at.returns-then-x-lt0 c).Then-x-lt0);
      next = omega (arith, c.put_byte-from.ensures.next, c.put_decimal.ensures.next);
    }

pub put_decimal-requires-2 : goal.put_decimal-requires-2
put_decimal-requires-2 c = omega (arith, ap length (pos-text (goal.at.put_decimal-requires-2 c).Else-x-lt0))

pub returns : goal.returns
returns c = record { left = c.put_decimal-2.ensures.left ∙ ap (overwrite c.args.out.now c.args.at) (pos-text (goal.at.returns c).Else-x-lt0); next = omega (arith, c.put_decimal-2.ensures.next, ap length (pos-text (goal.at.returns c).Else-x-lt0)) }
