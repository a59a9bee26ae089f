use mathlib.Core.Path.{◌≡◌, refl, sym, ap₂, ◌∙◌}
use Prim.Native.Nat.{◌+◌}
use native.Mathlib.Omega.{arith}
use lib.IntN.{◌+ℤ◌}
use mir.Syntax.{w64}
use mir.Val.{SFits, to_z, of_z}
use Rattle.instance.specs.Lists.{tabulate}
use Rattle.instance.specs.Terms.{TermOk, sum}
use Rattle.instance.specs.Tables.{term_at}
use Rattle.instance.specs.Meaning.{terms_at}
use Rattle.integers.proofs.SignedLaws.{fits-as, read_as, result_as}
use Rattle.instance.proofs.ListLaws.{tabulate-each, tabulate-length}
use Rattle.instance.proofs.SumLaws.{sum_step, sum_fits}
use Rattle.judge.proofs.sums.sum_of.Goals.{After-term_value-total}
use Rattle.judge.proofs.sums.sum_of.Goals as goal

pub loop-k-init : goal.loop-k-init
unfolding sum tabulate
loop-k-init c = refl

pub term_value-total-requires : goal.term_value-total-requires
term_value-total-requires c =
    let k = c.args.first + c.loop-k.k in record { k_in_bounds = omega (arith, c.requires.few, c.requires.room); term_ok = c.requires.terms k (omega arith) }

-- One term more.
added : (c : After-term_value-total) → to_z w64 c.loop-k.total-bits +ℤ to_z w64 (of_z w64 c.term_value-total.result) ≡ sum (terms_at c.args.terms.now c.args.first (c.loop-k.k + 1)) c.args.a
added c =
    ap₂ ◌+ℤ◌ c.loop-k.invariant (result_as w64 c.term_value-total.ensures c.term_value-total.type_inv)
    ∙ sym (sum_step c.args.terms.now c.args.first c.loop-k.k c.args.a)

fits : (c : After-term_value-total) → SFits w64 (sum (terms_at c.args.terms.now c.args.first (c.loop-k.k + 1)) c.args.a)
fits c =
    let n = c.loop-k.k + 1 in
    sum_fits (terms_at c.args.terms.now c.args.first n) c.args.a
    (tabulate-each (term_at c.args.terms.now) TermOk c.args.first n (λ k h. c.requires.terms (c.args.first + k) (omega arith)))
    (omega (arith, tabulate-length (term_at c.args.terms.now) c.args.first n, c.requires.few))

pub overflow_add-total : goal.overflow_add-total
overflow_add-total c = fits-as (added c) (fits c)

pub loop-k-preserved : goal.loop-k-preserved
loop-k-preserved c = read_as (added c) (fits c)
