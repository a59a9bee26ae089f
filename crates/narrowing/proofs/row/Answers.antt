use native.Mathlib.Omega.{arith}
use Prim.Native.Nat.{◌<◌, ◌+◌, ◌≤◌}
use Rattle.charging.specs.Rows.{of}
use Rattle.charging.specs.Meets.{need, left}
use Rattle.charging.proofs.ChargeLaws.{hopeless}
use Rattle.narrowing.specs.Parts.{Cuts}
use Rattle.narrowing.proofs.PartLaws.{row_more}
use Rattle.narrowing.proofs.row.Goals as goal

pub returns-in_err-slack : goal.returns-in_err-slack
returns-in_err-slack c =
    let r = c.args.rows.now in
    let h = c.args.h in
    let top = rw c.terms_of-terms.ensures at c.reach.ensures in
    let short : left r (of c.args.p) h < need r h = omega (arith, top, c.in_err-slack.ensures) in
    rw (c.from_residual.ensures, Cuts) (hopeless r (of c.args.p) h c.requires.1 short)

pub loop-term-preserved : goal.loop-term-preserved
loop-term-preserved c =
    let r = c.args.rows.now in
    let h = c.args.h in
    let terms = c.terms_of-terms.ensures in
    let top = rw terms at c.reach.ensures in
    let room : left r (of c.args.p) h ≤ need r h + c.in_ok-slack.slack = omega (arith, top, c.in_ok-slack.ensures) in
    row_more r c.args.p c.loop-term.q c.push-q.result h c.loop-term.term-index c.in_ok-slack.slack c.requires.1 (rw terms at c.loop-term-test.true) room
    c.loop-term.invariant (rw terms at c.push-q.ensures)
