-- A block that was begun, with its points, sealed.
use mathlib.Core.Path.{sym, subst}
use Prim.Native.Nat.{ℕ, ◌-◌, ◌*◌}
use Rattle.files.specs.Layout.{count_in}
use Rattle.files.specs.Structs.{PointsOf}
use Rattle.files.specs.Put.{PointsPut}
use Rattle.files.proofs.PointLaws.{points-sealed}
use Rattle.files.proofs.put.set_points.Goals as goal

pub returns : goal.returns
returns c =
    let first = (c.args.b - 1) * 12 in
    let each = subst (λ (n : ℕ). PointsPut c.begin.new.block first n c.args.list.now.values.now c.args.list.now.models.now c.set_each.new.block) c.count_in.ensures c.set_each.ensures in
    subst (PointsOf c.args.b first (count_in c.args.list.now.points c.args.b) c.args.list.now.values.now c.args.list.now.models.now) (sym c.seal.ensures)
    (points-sealed c.begin.new.block c.set_each.new.block c.args.b first (count_in c.args.list.now.points c.args.b) c.args.list.now.values.now c.args.list.now.models.now c.begin.ensures each)
