use mathlib.Core.Path.{◌≡◌, refl, ap₂, ◌∙◌}
use Prim.Native.Nat.{ℕ, ◌+◌, ◌-◌, ◌*◌, ◌<◌}
use native.Mathlib.Omega.{arith}
use Rattle.blocks.specs.Fields.{byte_at, number_at}
use Rattle.blocks.proofs.FieldLaws.{number-next, next-small, next-fits, part-place, part-byte}
use Rattle.blocks.proofs.fields.get.Goals.{In-loop-byte, After-from}
use Rattle.blocks.proofs.fields.get.Goals as goal

place : (g : _) (c : In-loop-byte g) → c.loop-byte.byte-index < 8
place g c =
    let p = part-place (c.args.at + g.row.N - c.args.at) c.args.at c.args.block.now c.loop-byte.byte-index c.loop-byte-test.true in
    omega (arith, p, c.requires.width)

byte : (g : _) (c : After-from g) → c.from.result ≡ byte_at c.args.block.now (c.args.at + c.loop-byte.byte-index)
byte g c = c.from.ensures ∙ part-byte (c.args.at + g.row.N - c.args.at) c.args.at c.args.block.now c.loop-byte.byte-index c.loop-byte-test.true

small : (g : _) (c : After-from g) → c.from.result < 256
small g c = omega (arith, byte g c, (c.type_inv.block (c.args.at + c.loop-byte.byte-index)).fits)

pub loop-byte-init : goal.loop-byte-init
unfolding number_at
loop-byte-init g c = (refl, omega arith)

pub overflow_mul-number : goal.overflow_mul-number
overflow_mul-number g c =
    record { fits = omega (arith, next-fits c.loop-byte.byte-index c.loop-byte.number 0 (place g (goal.at.overflow_mul-number g c).In-loop-byte) c.loop-byte.invariant.1 (omega arith)) }

pub overflow_add-number : goal.overflow_add-number
overflow_add-number g c =
    let few = place g (goal.at.overflow_add-number g c).In-loop-byte in
    let b = small g (goal.at.overflow_add-number g c).After-from in
    record { fits = next-fits c.loop-byte.byte-index c.loop-byte.number c.from.result few c.loop-byte.invariant.1 b }

pub loop-byte-preserved : goal.loop-byte-preserved
loop-byte-preserved g c =
    let b = byte g (goal.at.loop-byte-preserved g c).After-from in (
      ap₂ (λ (x y : ℕ). x * 256 + y) c.loop-byte.invariant.0 b ∙ number-next c.loop-byte.byte-index c.args.block.now c.args.at,
      next-small c.loop-byte.byte-index c.loop-byte.number c.from.result c.loop-byte.invariant.1 (small g (goal.at.loop-byte-preserved g c).After-from),
    )
