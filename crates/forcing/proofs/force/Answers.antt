use native.Mathlib.Omega.{arith}
use Rattle.forcing.proofs.ForceLaws.{force-more}
use Rattle.forcing.proofs.force.Goals as goal

pub loop-v-preserved : goal.loop-v-preserved
loop-v-preserved c =
    let a = c.args in
    force-more a.rows.now a.costs.now c.requires.0 a.cap c.charge-bound.result _ a.p c.charge-bound.ensures c.loop-v.q c.push-q.result c.loop-v.v _
    (omega (arith, c.requires.0.long)) (omega arith) c.loop-v.invariant c.push-q.ensures
