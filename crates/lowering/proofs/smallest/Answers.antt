use mathlib.Core.Path.{◌≡◌}
use native.Mathlib.Omega.{arith}
use Rattle.forcing.specs.Goals.{Wanted}
use Rattle.lowering.proofs.LowerLaws.{lowered-end}
use Rattle.lowering.proofs.smallest.Goals as goal

pub returns : goal.returns
returns c =
    let g = c.args.goal.now in
    let z : c.loop-v.v ≡ 0 = omega arith in
    lowered-end g.rows.n (Wanted g) c.loop-v.known.part c.loop-v.known.number (rw z at c.loop-v.invariant)
