use borrow.Author.Rules.{rules}
use mathlib.Core.Path.{◌≡◌, refl, ◌∙◌}
use Prim.Native.Nat.{◌+◌, ◌/◌, ◌≤◌}
use native.Mathlib.Omega.{arith}
use lib.ListN.{length}
use Rattle.decimal.specs.Decimal.{decimal}
use Rattle.decimal.proofs.DecimalLaws.{decimal-some, decimal-more}
use Rattle.decimal.proofs.PutLaws.{digit-step, digit-last}
use Rattle.decimal.proofs.put_decimal.Goals as goal

pub overflow_sub-i : goal.overflow_sub-i
overflow_sub-i c = omega (arith, decimal-some c.args.x)

pub loop-rest-init : goal.loop-rest-init
loop-rest-init c =
    let some : 1 ≤ length (decimal c.args.x) = decimal-some c.args.x in
    (omega arith, refl, omega arith, omega arith, refl)

pub overflow_sub-i-in-loop-rest : goal.overflow_sub-i-in-loop-rest
overflow_sub-i-in-loop-rest c =
    omega (arith, decimal-more c.loop-rest.rest (omega arith) (omega arith), decimal-some (c.loop-rest.rest / 10))

pub loop-rest-preserved : goal.loop-rest-preserved
loop-rest-preserved c =
    let more : length (decimal c.loop-rest.rest) ≡ length (decimal (c.loop-rest.rest / 10)) + 1 = decimal-more c.loop-rest.rest (omega arith) (omega arith) in (
      omega arith,
      search rules,
      omega arith,
      omega (arith, decimal-some (c.loop-rest.rest / 10)),
      digit-step c.loop-rest.out c.args.at c.loop-rest.rest c.loop-rest.i c.digit_byte.result (omega arith) (omega arith) (omega arith) (omega arith) c.digit_byte.ensures ∙ c.loop-rest.invariant.4,
    )

pub returns : goal.returns
returns c = record { left = digit-last c.loop-rest.out c.args.at c.loop-rest.rest c.loop-rest.i c.digit_byte-2.result (omega arith) (omega arith) (omega arith) c.digit_byte-2.ensures ∙ c.loop-rest.invariant.4; next = omega arith }
