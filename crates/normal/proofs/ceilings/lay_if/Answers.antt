-- One ceiling more, or as many as before.
use native.Mathlib.Omega.{arith}
use Rattle.normal.proofs.PricedLaws.{earlier-below}
use Rattle.normal.proofs.CeilingLaws.{ceilings-more}
use Rattle.normal.proofs.ceilings.lay_if.Goals as goal

pub returns : goal.returns
returns c =
    let room = earlier-below c.args.laid 4 c.args.half.now.rows.n (omega arith) in
    (omega arith, ceilings-more c.requires.all c.lay_ceiling.ensures (omega arith) (omega arith))
