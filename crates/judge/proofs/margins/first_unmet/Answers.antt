use mathlib.Core.Path.{◌≡◌, sym, ◌∙◌}
use Prim.Native.Nat.{◌+◌}
use native.Mathlib.Omega.{arith}
use mir.Syntax.{w64}
use mir.Val.{to_z, of_z}
use Rattle.instance.specs.Rows.{Entry, margin}
use Rattle.instance.specs.Meaning.{entry_at}
use Rattle.integers.proofs.SignedLaws.{result_as}
use Rattle.judge.proofs.MarginLaws.{row-breaks, row-meets}
use Rattle.judge.proofs.UnmetLaws.{left-start, left-next, left_here, left-none}
use Rattle.judge.proofs.margins.first_unmet.Goals.{After-margin_at-unmet}
use Rattle.judge.proofs.margins.first_unmet.Goals as goal

pub loop-k-init : goal.loop-k-init
loop-k-init c = (left-start (entry_at c.args.terms.now c.args.rows.now) c.args.first c.args.count c.args.a)

pub margin_at-unmet-requires : goal.margin_at-unmet-requires
margin_at-unmet-requires c = record { instance = c.requires.instance; k_bound = omega (arith, c.requires.count_bound) }

-- The row that is looked at, and its margin.
abbrev row : After-margin_at-unmet → Entry
row c = entry_at c.args.terms.now c.args.rows.now (c.args.first + c.loop-k.k)

measured : (c : After-margin_at-unmet) → to_z w64 (of_z w64 c.margin_at-unmet.result) ≡ margin (row c) c.args.a
measured c = result_as w64 c.margin_at-unmet.ensures c.margin_at-unmet.type_inv

pub returns-then-unmet : goal.returns-then-unmet
returns-then-unmet c =
    sym (c.loop-k.invariant ∙ left_here (entry_at c.args.terms.now c.args.rows.now) c.args.first c.args.count c.args.a c.loop-k.k c.loop-k-test.true
    (row-breaks (row (goal.at.returns-then-unmet c).After-margin_at-unmet) c.args.a (to_z w64 (of_z w64 c.margin_at-unmet.result)) (measured (goal.at.returns-then-unmet c).After-margin_at-unmet) c.if-unmet.true))

pub loop-k-preserved : goal.loop-k-preserved
loop-k-preserved c =
    c.loop-k.invariant ∙ left-next (entry_at c.args.terms.now c.args.rows.now) c.args.first c.args.count c.args.a c.loop-k.k c.loop-k-test.true
    (row-meets (row (goal.at.loop-k-preserved c).After-margin_at-unmet) c.args.a (to_z w64 (of_z w64 c.margin_at-unmet.result)) (measured (goal.at.loop-k-preserved c).After-margin_at-unmet) c.if-unmet.false)

pub returns : goal.returns
returns c =
    sym (c.loop-k.invariant ∙ left-none (entry_at c.args.terms.now c.args.rows.now) c.args.first c.args.count c.args.a c.loop-k.k (omega arith))
