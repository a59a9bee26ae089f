use Rattle.charging.specs.Rows.{of}
use Rattle.charging.specs.Meets.{Meets}
use Rattle.charging.proofs.ChargeLaws.{hopeless}
use Rattle.finding.proofs.FindLaws.{tells-no}
use Rattle.finding.proofs.met.Goals as goal

pub returns-then-reach-need : goal.returns-then-reach-need
returns-then-reach-need c =
    let r = c.args.rows.now in
    let top = rw c.terms_of.ensures at c.reach.ensures in
    tells-no r.n (Meets r) c.args.p (hopeless r (of c.args.p) c.loop-h.h c.loop-h-test.true (rw top at c.if-reach-need.true))
