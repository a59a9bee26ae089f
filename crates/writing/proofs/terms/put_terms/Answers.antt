use mathlib.Core.Path.{sym, ap}
use mathlib.Core.List.{◌++◌}
use Prim.Native.Nat.{◌+◌, ◌-◌}
use native.Mathlib.Omega.{arith}
use Rattle.instance.specs.Structs.{term_of}
use Rattle.instance.specs.Terms.{Term}
use Rattle.instance.specs.Tables.{term_at}
use Rattle.instance.specs.Meaning.{terms_at}
use Rattle.writing.specs.Writing.{term_text, terms_text}
use Rattle.writing.proofs.RestLaws.{Rest, rest_all, rest-as, rest-room, rest_put, rest-none}
use Rattle.writing.proofs.TextLaws.{terms-more, terms-none}
use Rattle.writing.proofs.terms.put_terms.Goals.{After-at}
use Rattle.writing.proofs.terms.put_terms.Goals as goal

-- what is left is the term read and the others
left : (c : After-at) → Rest c.args.out.now c.args.at (terms_text (terms_at c.args.terms.now c.args.first (c.args.end - c.args.first))) c.loop-k.out c.loop-k.place (term_text (term_of c.at.result) ++ terms_text (terms_at c.args.terms.now (c.loop-k.k + 1) (c.args.end - (c.loop-k.k + 1))))
left c =
    let rest = terms_text (terms_at c.args.terms.now (c.loop-k.k + 1) (c.args.end - (c.loop-k.k + 1))) in
    rest-as (ap (λ (t : Term). term_text t ++ rest) (sym c.at.ensures))
    (rest-as (terms-more (term_at c.args.terms.now) c.loop-k.k c.args.end (omega arith)) c.loop-k.invariant)

pub loop-k-init : goal.loop-k-init
loop-k-init c =
    rest_all c.args.out.now c.args.at (terms_text (terms_at c.args.terms.now c.args.first (c.args.end - c.args.first))) c.requires.first_in_bounds

pub put_term-place-requires : goal.put_term-place-requires
put_term-place-requires c =
    rest-room (term_text (term_of c.at.result)) (terms_text (terms_at c.args.terms.now (c.loop-k.k + 1) (c.args.end - (c.loop-k.k + 1)))) (left c)

pub loop-k-preserved : goal.loop-k-preserved
loop-k-preserved c =
    rest_put (term_text (term_of c.at.result)) (terms_text (terms_at c.args.terms.now (c.loop-k.k + 1) (c.args.end - (c.loop-k.k + 1)))) (left (goal.at.loop-k-preserved c).After-at) (c.put_term-place.ensures.left, c.put_term-place.ensures.next)

pub returns : goal.returns
returns c =
    let p = rest-none (rest-as (terms-none (term_at c.args.terms.now) c.loop-k.k c.args.end (omega arith)) c.loop-k.invariant) in record { left = p.0; next = p.1 }
