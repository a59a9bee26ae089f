-- `decimal::signed_len` meets its contract: the length of the size's digits, and one for the sign. Assumes nothing.
use mathlib.Core.Path.{refl, ap}
use native.Mathlib.Omega.{arith}
use lib.ListN.{length}
use Rattle.decimal.proofs.DecimalLaws.{decimal-length}
use Rattle.decimal.proofs.PutLaws.{signed-as}
use Rattle.decimal.proofs.signed_len.Goals as goal

pub overflow_add-result : goal.overflow_add-result
overflow_add-result c =
    omega (arith, decimal-length 20 c.unsigned_abs.result (omega arith) (omega arith))

pub returns : goal.returns
returns c =
    omega (arith, ap length (signed-as c.args.x c.ranges.x c.unsigned_abs.result c.unsigned_abs.ensures.value _ refl))
