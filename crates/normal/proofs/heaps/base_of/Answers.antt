use mathlib.Core.Path.{sym}
use Prim.Native.Nat.{ℕ, min}
use native.Mathlib.Omega.{arith}
use Rattle.charging.proofs.SumLaws.{sum_none, sum_more}
use Rattle.normal.specs.Costs.{side_of}
use Rattle.normal.proofs.heaps.base_of.Goals as goal

pub loop-v-init : goal.loop-v-init
loop-v-init c = (sym (sum_none _), omega arith)

pub overflow_add-sum : goal.overflow_add-sum
overflow_add-sum c = omega (arith, c.requires.2 c.loop-v.v 0, c.min-sum.ensures)

pub loop-v-preserved : goal.loop-v-preserved
loop-v-preserved c =
    let sides = c.args.sides.now in
    let v = c.loop-v.v in
    (omega (arith, sum_more (λ (u : ℕ). min (side_of sides u 0) (side_of sides u 1)) v), omega (arith, c.requires.2 v 0, c.min-sum.ensures))
