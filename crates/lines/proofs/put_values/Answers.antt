use mathlib.Core.List.{◌∷◌}
use Prim.Native.Nat.{◌+◌, ◌≤◌}
use native.Mathlib.Omega.{arith}
use lib.IntN.{ℤ, pos}
use lib.ListN.{length, get_or, drop}
use Rattle.decimal.specs.Decimal.{integer}
use Rattle.writing.proofs.RestLaws.{Put, rest-as, rest-none, rest-room, rest_put}
use Rattle.integers.proofs.SignedLaws.{plain, coded}
use Rattle.lines.specs.Lines.{values_text}
use Rattle.lines.proofs.LineLaws.{values-next, values-end, value-fits}
use Rattle.lines.proofs.put_values.Goals as goal

pub put_value-place-requires : goal.put_value-place-requires
put_value-place-requires c =
    coded {z = get_or c.args.values.now c.loop-v.v-index (pos 0)} (λ (z : ℤ). c.loop-v.place + length (32 ∷ integer z) ≤ length c.loop-v.out) (value-fits (omega arith))
    (rest-room (32 ∷ integer (get_or c.args.values.now c.loop-v.v-index (pos 0))) (values_text (drop (c.loop-v.v-index + 1) c.args.values.now))
    (rest-as (values-next c.args.values.now c.loop-v.v-index c.loop-v-test.true) c.loop-v.invariant))

pub loop-v-preserved : goal.loop-v-preserved
loop-v-preserved c =
    let v = get_or c.args.values.now c.loop-v.v-index (pos 0) in
    let put : Put c.loop-v.out c.loop-v.place (32 ∷ integer v) c.put_value-place.new.out c.put_value-place.result =
    plain {z = v} (λ (z : ℤ). Put c.loop-v.out c.loop-v.place (32 ∷ integer z) c.put_value-place.new.out c.put_value-place.result) (value-fits (omega arith)) (c.put_value-place.ensures.left, c.put_value-place.ensures.next) in
    rest_put (32 ∷ integer v) (values_text (drop (c.loop-v.v-index + 1) c.args.values.now))
    (rest-as (values-next c.args.values.now c.loop-v.v-index c.loop-v-test.true) c.loop-v.invariant) put

pub returns : goal.returns
returns c =
    let p = rest-none (rest-as (values-end c.args.values.now c.loop-v.v-index c.loop-v-test.false) c.loop-v.invariant) in
    record { left = p.0; next = p.1 }
