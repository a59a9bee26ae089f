-- `writing::terms::literal_len` meets its contract: the number has at most 21 bytes, so the sum fits. Assumes nothing.
use mathlib.Core.Path.{◌≡◌}
use native.Mathlib.Omega.{arith}
use lib.IntN.{ℤ}
use lib.ListN.{length}
use Rattle.decimal.specs.Decimal.{integer}
use Rattle.integers.proofs.SignedLaws.{plain}
use Rattle.writing.proofs.LengthLaws.{integer-most}
use Rattle.writing.proofs.terms.literal_len.Goals.{After-integer_len}
use Rattle.writing.proofs.terms.literal_len.Goals as goal

size : (c : After-integer_len) → c.integer_len.result ≡ length (integer c.args.lit)
size c = plain (λ (y : ℤ). c.integer_len.result ≡ length (integer y)) c.ranges.lit c.integer_len.ensures

pub overflow_add-result : goal.overflow_add-result
overflow_add-result c = omega (arith, size c, integer-most c.args.lit)
