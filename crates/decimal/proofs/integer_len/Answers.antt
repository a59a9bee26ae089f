-- `decimal::integer_len` meets its contract: the length of the size's digits, and one more for a minus. Assumes nothing.
use mathlib.Core.Path.{ap}
use native.Mathlib.Omega.{arith}
use lib.ListN.{length}
use Rattle.decimal.proofs.DecimalLaws.{decimal-length}
use Rattle.decimal.proofs.PutLaws.{integer-neg, integer-pos}
use Rattle.decimal.proofs.integer_len.Goals as goal

pub overflow_add-result : goal.overflow_add-result
overflow_add-result c =
    omega (arith, decimal-length 20 c.unsigned_abs.result (omega arith) (omega arith))

pub returns-then-x-lt0 : goal.returns-then-x-lt0
returns-then-x-lt0 c =
    omega (arith, ap length (integer-neg c.args.x c.ranges.x c.unsigned_abs.result c.unsigned_abs.ensures.value c.if-x-lt0.true))

pub returns-else-x-lt0 : goal.returns-else-x-lt0
returns-else-x-lt0 c =
    omega (arith, ap length (integer-pos c.args.x c.ranges.x c.unsigned_abs.result c.unsigned_abs.ensures.value c.if-x-lt0.false))
