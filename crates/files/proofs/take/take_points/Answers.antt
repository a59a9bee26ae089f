use mathlib.Core.Path.{ap, ◌∙◌}
use mathlib.Core.List.{List}
use Prim.Native.Nat.{ℕ}
use native.Mathlib.Omega.{arith}
use lib.IntN.{ℤ}
use lib.ListN.{set}
use Rattle.points.specs.Lists.{values_put}
use Rattle.files.specs.Layout.{model_in}
use Rattle.files.proofs.BlockLaws.{fill-first, fill-next, fill-four, four-first}
use Rattle.files.specs.Layout.{value_in}
use Rattle.files.proofs.take.take_points.Goals as goal

pub loop-k-init : goal.loop-k-init
loop-k-init c = (four-first (value_in c.args.file.now) c.args.values.now, fill-first (model_in c.args.file.now) c.args.models.now)

pub loop-k-preserved : goal.loop-k-preserved
loop-k-preserved c = (
  c.store.ensures.values
      ∙ (ap (λ (x : List ℤ). values_put c.loop-k.values c.loop-k.k x) c.point_in.ensures.values
      ∙ fill-four c.args.file.now c.args.values.now c.loop-k.values c.loop-k.k (omega arith) c.loop-k.invariant.0),
  c.store.ensures.models
      ∙ (ap (λ (m : ℕ). set c.loop-k.models c.loop-k.k m) c.point_in.ensures.model
      ∙ fill-next (model_in c.args.file.now) c.args.models.now c.loop-k.models c.loop-k.k (omega arith) c.loop-k.invariant.1),
)
