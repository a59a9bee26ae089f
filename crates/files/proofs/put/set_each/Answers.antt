use mathlib.Core.Path.{subst}
use Rattle.points.specs.Fronts.{Candidate}
use Rattle.files.specs.Put.{PointPut}
use Rattle.files.proofs.PointLaws.{points-more, candidate-at}
use Rattle.files.proofs.put.set_each.Goals as goal

pub loop-j-preserved : goal.loop-j-preserved
loop-j-preserved c =
    let e = candidate-at c.args.list.now.values.now c.args.list.now.models.now _ c.point.result c.point.ensures.vector c.point.ensures.model in
    points-more c.args.block.now c.loop-j.block c.set_point.new.block c.args.first c.loop-j.j c.args.list.now.values.now c.args.list.now.models.now c.loop-j.invariant
    (subst (λ (p : Candidate). PointPut c.loop-j.block c.loop-j.j p c.set_point.new.block) e c.set_point.ensures)
