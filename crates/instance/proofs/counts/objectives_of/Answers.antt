use mathlib.Core.Path.{◌≡◌, sym, ap, ◌∙◌}
use Prim.Native.Nat.{◌+◌}
use native.Mathlib.Omega.{arith}
use Rattle.instance.proofs.ListLaws.{passed_none, passed-more, passed-stop, passed-all}
use Rattle.instance.specs.Tables.{is_objective}
use Rattle.instance.proofs.counts.objectives_of.Goals.{After-is_objective}
use Rattle.instance.proofs.counts.objectives_of.Goals as goal

-- Entry k, as the loop tests it.
tested : (c : After-is_objective) → is_objective c.args.rows.now (0 + c.loop-k.k) ≡ c.is_objective.result
tested c =
    let e : 0 + c.loop-k.k ≡ c.loop-k.k = omega arith in
    ap (is_objective c.args.rows.now) e ∙ sym c.is_objective.ensures

pub loop-k-init : goal.loop-k-init
loop-k-init c = passed_none

pub returns-then-not-is_objective : goal.returns-then-not-is_objective
returns-then-not-is_objective c = passed-stop c.loop-k.invariant (tested (goal.at.returns-then-not-is_objective c).After-is_objective ∙ c.if-not-is_objective.true)

pub loop-k-preserved : goal.loop-k-preserved
loop-k-preserved c = passed-more c.loop-k.invariant (omega arith) (tested (goal.at.loop-k-preserved c).After-is_objective ∙ c.if-not-is_objective.false)

pub returns : goal.returns
returns c = let e : 260 ≡ c.loop-k.k = omega arith in e ∙ passed-all c.loop-k.invariant (omega arith)
