-- What is left after sifting accounts for all that is fit; where that is no trade and no limit, nothing is.
use native.Mathlib.Omega.{arith}
use mathlib.Core.Path.{◌∙◌}
use Rattle.capping.proofs.OrderLaws.{no}
use Rattle.advancing.specs.Stocked.{Stocked}
use Rattle.advancing.proofs.NextLaws.{none-of, stocked-sifted, ready-left}
use Rattle.advancing.proofs.choices.choose.Goals.{After-sift-had}
use Rattle.advancing.proofs.choices.choose.Goals as goal

left : (g : _) (c : After-sift-had g) → Stocked c.args.problem.now c.args.listed.now c.sift-had.new.points c.sift-had.result.stock
left g c =
    let a = c.args in
    let s = c.sift-had.ensures in
    stocked-sifted a.problem.now a.listed.now a.points.now a.stock _ c.sift-had.result.stock
    (omega (arith, s.sifted.fewer, c.sift-had.auto.points, c.requires.stocked.held.room)) s.limit s.sifted c.requires.stocked

pub returns-then-is_some : goal.returns-then-is_some
returns-then-is_some g c =
    ready-left c.args.problem.now c.args.listed.now _ c.sift-had.result.stock c.sift-had.result.next
    (left g (goal.at.returns-then-is_some g c).After-sift-had) c.sift-had.ensures.chosen (λ e. no (rw e at c.if-is_some.ensures))

pub returns-then-is_none : goal.returns-then-is_none
returns-then-is_none g c =
    ready-left c.args.problem.now c.args.listed.now _ c.sift-had.result.stock c.sift-had.result.next
    (left g (goal.at.returns-then-is_none g c).After-sift-had) c.sift-had.ensures.chosen
    (λ _. c.sift-had.ensures.limit ∙ none-of c.args.stock.limit c.if-is_none.ensures)
