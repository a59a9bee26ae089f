-- `decimal::put_signed` meets its contract: the sign and then the size's digits are one write, by `overwrite-then`. Assumes nothing.
use mathlib.Core.Path.{◌≡◌, ap, ◌∙◌}
use mathlib.Core.List.{[], ◌∷◌}
use native.Mathlib.Omega.{arith}
use lib.ListN.{length}
use Rattle.decimal.specs.Bytes.{overwrite}
use Rattle.decimal.specs.Decimal.{decimal, signed}
use Rattle.decimal.proofs.OverwriteLaws.{overwrite-then}
use Rattle.decimal.proofs.PutLaws.{signed-as}
use Rattle.decimal.proofs.put_signed.Goals.{After-unsigned_abs}
use Rattle.decimal.proofs.put_signed.Goals as goal

-- what is to be written
text : (c : After-unsigned_abs) → c.sign_byte.result ∷ decimal c.unsigned_abs.result ≡ signed c.args.x
text c =
    signed-as c.args.x c.ranges.x c.unsigned_abs.result c.unsigned_abs.ensures.value c.sign_byte.result c.sign_byte.ensures

pub put_decimal-requires : goal.put_decimal-requires
put_decimal-requires c =
    omega (arith, c.put_byte-from.auto, c.put_byte-from.ensures.next, ap length (text c))

pub returns : goal.returns
returns c =
    let size : length (c.sign_byte.result ∷ decimal c.unsigned_abs.result) ≡ length (signed c.args.x) = ap length (text (goal.at.returns c).After-unsigned_abs) in record {
      left = overwrite-then c.args.out.now c.args.at (c.sign_byte.result ∷ []) (decimal c.unsigned_abs.result) (omega arith) c.put_byte-from.ensures.left c.put_byte-from.ensures.next c.put_decimal.ensures.left
          ∙ ap (overwrite c.args.out.now c.args.at) (text (goal.at.returns c).After-unsigned_abs);
      next = omega (arith, c.put_byte-from.ensures.next, c.put_decimal.ensures.next);
    }
