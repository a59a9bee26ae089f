use native.Mathlib.Omega.{arith}
use Rattle.decimal.proofs.DecimalLaws.{decimal-some, decimal-length, decimal-more, decimal-one}
use Rattle.decimal.proofs.decimal_len.Goals as goal

pub overflow_add-n : goal.overflow_add-n
overflow_add-n c =
    omega (arith, decimal-some c.loop-rest.rest, decimal-length 20 c.args.x (omega arith) (omega arith))

pub loop-rest-preserved : goal.loop-rest-preserved
loop-rest-preserved c = omega (arith, decimal-more c.loop-rest.rest (omega arith) (omega arith))

pub returns : goal.returns
returns c = omega (arith, decimal-one c.loop-rest.rest (omega arith))
