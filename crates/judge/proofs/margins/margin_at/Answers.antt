-- The entry is read, its terms are summed, and sum and bound are within the largest bound.
use mathlib.Core.Path.{◌≡◌, ap, ◌∙◌, subst, sym}
use mathlib.Core.List.{List}
use Prim.Native.Nat.{ℕ, ◌≤◌}
use native.Mathlib.Omega.{arith}
use lib.IntN.{ℤ, nat_abs}
use mir.Syntax.{w64}
use mir.Val.{to_z, of_z}
use Rattle.instance.specs.Limits.{max_bound}
use Rattle.instance.specs.Terms.{Term, sum}
use Rattle.instance.specs.Rows.{margin_of}
use Rattle.instance.specs.Tables.{kind_at, bound_at}
use Rattle.instance.specs.Meaning.{entry_at}
use Rattle.integers.proofs.SignedLaws.{result_as, read_as, sfits-abs}
use Rattle.instance.proofs.InstanceLaws.{entry-fine, entry-terms, entry-sum-bound}
use Rattle.judge.proofs.SummableLaws.{entry-summable}
use Rattle.judge.proofs.margins.margin_at.Goals.{After-at-e, After-sum_of-s}
use Rattle.judge.proofs.margins.margin_at.Goals as goal

pub at-e-requires : goal.at-e-requires
at-e-requires c = entry-fine c.requires.instance c.args.k c.requires.k_bound

pub sum_of-s-requires : goal.sum_of-s-requires
sum_of-s-requires c = entry-summable c.requires.instance c.args.k c.requires.k_bound c.at-e.ensures

-- The sum and the bound, as the entry's meaning has them.
summed : (c : After-sum_of-s) → to_z w64 (of_z w64 c.sum_of-s.result) ≡ sum (entry_at c.args.terms.now c.args.rows.now c.args.k).terms c.args.a
summed c =
    result_as w64 c.sum_of-s.ensures c.sum_of-s.type_inv
    ∙ ap (λ (l : List Term). sum l c.args.a) (entry-terms c.args.terms.now c.args.rows.now c.args.k c.at-e.ensures)

bounded : (c : After-at-e) → to_z w64 (of_z w64 c.at-e.result.bound) ≡ bound_at c.args.rows.now c.args.k
bounded c =
    let b = bound_at c.args.rows.now c.args.k in
    read_as c.at-e.ensures.bound (sfits-abs w64 b (omega (arith, (c.requires.instance.used c.args.k c.requires.k_bound).bound)))

pub margin_of-requires : goal.margin_of-requires
margin_of-requires c = record { s_bound = subst (λ (z : ℤ). nat_abs z ≤ max_bound) (sym (summed (goal.at.margin_of-requires c).After-sum_of-s)) (entry-sum-bound c.requires.instance c.args.k c.args.a c.requires.k_bound); bound_bound = subst (λ (z : ℤ). nat_abs z ≤ max_bound) (sym (bounded (goal.at.margin_of-requires c).After-at-e)) (c.requires.instance.used c.args.k c.requires.k_bound).bound }

pub returns : goal.returns
returns c =
    let x = sum (entry_at c.args.terms.now c.args.rows.now c.args.k).terms c.args.a in
    result_as w64 c.margin_of.ensures c.margin_of.type_inv
    ∙ (ap (λ (k : ℕ). margin_of k (to_z w64 (of_z w64 c.sum_of-s.result)) (to_z w64 (of_z w64 c.at-e.result.bound))) c.at-e.ensures.kind
    ∙ (ap (λ (z : ℤ). margin_of (nat_abs (kind_at c.args.rows.now c.args.k)) z (to_z w64 (of_z w64 c.at-e.result.bound))) (summed (goal.at.returns c).After-sum_of-s)
    ∙ ap (margin_of (nat_abs (kind_at c.args.rows.now c.args.k)) x) (bounded (goal.at.returns c).After-at-e)))
