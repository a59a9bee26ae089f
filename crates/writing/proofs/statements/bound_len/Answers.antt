-- `writing::statements::bound_len` meets its contract: the lengths are small, so their sum fits. Assumes nothing.
use mathlib.Core.Path.{◌≡◌}
use native.Mathlib.Omega.{arith}
use lib.IntN.{ℤ}
use lib.ListN.{length}
use Rattle.decimal.specs.Decimal.{integer}
use Rattle.integers.proofs.SignedLaws.{plain}
use Rattle.instance.specs.Kinds.{number_of}
use Rattle.writing.proofs.LengthLaws.{integer-most, relation-most}
use Rattle.writing.proofs.statements.bound_len.Goals.{After-integer_len}
use Rattle.writing.proofs.statements.bound_len.Goals as goal

-- the length is that of the bound
size : (c : After-integer_len) → c.integer_len.result ≡ length (integer c.args.bound)
size c = plain (λ (y : ℤ). c.integer_len.result ≡ length (integer y)) c.ranges.bound c.integer_len.ensures

pub overflow_add-result : goal.overflow_add-result
overflow_add-result c =
    omega (arith, size c, integer-most c.args.bound, relation-most (number_of c.args.kind))

pub overflow_add-result-2 : goal.overflow_add-result-2
overflow_add-result-2 c =
    omega (arith, size c, integer-most c.args.bound, relation-most (number_of c.args.kind))
