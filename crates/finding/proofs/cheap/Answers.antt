use Rattle.finding.specs.Finding.{Cheap}
use Rattle.finding.proofs.FindLaws.{tells-no, too-dear}
use Rattle.finding.proofs.cheap.Goals as goal

pub returns-then-cap-sure : goal.returns-then-cap-sure
returns-then-cap-sure c =
    let g = c.args.goal.now in
    let sure = rw c.costs_of.ensures at c.sure.ensures.0 in
    tells-no g.rows.n (Cheap g) c.args.p (too-dear g c.args.p c.loop-i.i c.loop-i-test.true (rw sure at c.if-cap-sure.true))
