-- Objective k is entry k, whose terms lie within the total; where there is none the value is 0.
use mathlib.Core.Path.{sym, ap, ◌∙◌}
use mathlib.Core.List.{List}
use Prim.Native.Nat.{◌<◌}
use native.Mathlib.Omega.{arith}
use mir.Syntax.{w64}
use Rattle.instance.specs.Terms.{Term, sum}
use Rattle.instance.specs.Tables.{entries_in}
use Rattle.integers.proofs.SignedLaws.{result_as}
use Rattle.instance.proofs.InstanceLaws.{entry-fine, entry-terms}
use Rattle.judge.proofs.SummableLaws.{entry-summable}
use Rattle.judge.proofs.VectorLaws.{vector-at, vector-none}
use Rattle.judge.proofs.judging.value_of.Goals.{Else-objectives-k}
use Rattle.judge.proofs.judging.value_of.Goals as goal

used : (c : Else-objectives-k) → c.args.k < entries_in c.args.rows.now
used c = omega (arith, c.requires.objectives_value, c.if-objectives-k.false)

pub returns-then-objectives-k : goal.returns-then-objectives-k
returns-then-objectives-k c =
    sym (vector-none c.args.terms.now c.args.rows.now c.args.a c.args.k (omega (arith, c.requires.objectives_value, c.if-objectives-k.true)))

pub at-e-requires : goal.at-e-requires
at-e-requires c = entry-fine c.requires.instance c.args.k (used c)

pub sum_of-requires : goal.sum_of-requires
sum_of-requires c = entry-summable c.requires.instance c.args.k (used (goal.at.sum_of-requires c).Else-objectives-k) c.at-e.ensures

pub returns : goal.returns
returns c =
    result_as w64 c.sum_of.ensures c.sum_of.type_inv
    ∙ (ap (λ (l : List Term). sum l c.args.a) (entry-terms c.args.terms.now c.args.rows.now c.args.k c.at-e.ensures)
    ∙ sym (vector-at c.args.terms.now c.args.rows.now c.args.a c.args.k (omega (arith, c.requires.objectives_value, c.if-objectives-k.false))))
