use mathlib.Core.Path.{◌≡◌, ap, ◌∙◌}
use Prim.Native.Nat.{◌+◌, ◌-◌}
use native.Mathlib.Omega.{arith}
use lib.ListN.{length, length-append}
use Rattle.instance.specs.Terms.{Term}
use Rattle.instance.specs.Tables.{term_at}
use Rattle.instance.specs.Meaning.{terms_at}
use Rattle.writing.specs.Writing.{term_text, terms_text}
use Rattle.writing.proofs.TextLaws.{terms-more, terms-none}
use Rattle.writing.proofs.terms.terms_len.Goals.{After-term_len-sum}
use Rattle.writing.proofs.terms.terms_len.Goals as goal

-- the terms that are left are one term and the others
step : (c : After-term_len-sum) → length (terms_text (terms_at c.args.terms.now c.loop-k.k (c.args.end - c.loop-k.k))) ≡ c.term_len-sum.result + length (terms_text (terms_at c.args.terms.now (c.loop-k.k + 1) (c.args.end - (c.loop-k.k + 1))))
step c =
    let one : c.term_len-sum.result ≡ length (term_text (term_at c.args.terms.now c.loop-k.k)) =
    c.term_len-sum.ensures ∙ ap (λ (t : Term). length (term_text t)) c.at.ensures in
    omega (
      arith,
      ap length (terms-more (term_at c.args.terms.now) c.loop-k.k c.args.end (omega arith)),
      length-append (term_text (term_at c.args.terms.now c.loop-k.k)) (terms_text (terms_at c.args.terms.now (c.loop-k.k + 1) (c.args.end - (c.loop-k.k + 1)))),
    )

pub overflow_add-sum : goal.overflow_add-sum
overflow_add-sum c = omega (arith, step c)

pub loop-k-preserved : goal.loop-k-preserved
loop-k-preserved c = omega (arith, step c)

pub returns : goal.returns
returns c =
    omega (arith, ap length (terms-none (term_at c.args.terms.now) c.loop-k.k c.args.end (omega arith)))
