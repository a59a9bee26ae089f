-- A space, then the number.
use mathlib.Core.List.{[], ◌∷◌}
use lib.IntN.{ℤ}
use Rattle.decimal.specs.Decimal.{integer}
use Rattle.writing.proofs.RestLaws.{Put, rest_all, rest-put-all, rest_put}
use Rattle.integers.proofs.SignedLaws.{plain}
use Rattle.lines.proofs.put_value.Goals as goal

pub returns-clause-left : goal.returns-clause-left
returns-clause-left c =
    let space : Put c.args.out.now c.args.at (32 ∷ []) c.put_byte-from.new.out c.put_byte-from.result = (c.put_byte-from.ensures.left, c.put_byte-from.ensures.next) in
    let rest = rest_put (32 ∷ []) (integer c.args.v) (rest_all c.args.out.now c.args.at (32 ∷ integer c.args.v) c.requires) space in
    let put : Put c.put_byte-from.new.out c.put_byte-from.result (integer c.args.v) c.put_integer.new.out c.put_integer.result =
    plain (λ (z : ℤ). Put c.put_byte-from.new.out c.put_byte-from.result (integer z) c.put_integer.new.out c.put_integer.result) c.ranges.v
    (c.put_integer.ensures.left, c.put_integer.ensures.next) in
    (rest-put-all rest put).0
