-- By the token: no word or a relation stops the terms, a word that is no number breaks the grammar, else read_second decides.
use borrow.Author.Rules.{rules}
use mathlib.Core.Path.{◌≡◌, sym, ◌∙◌}
use Rattle.std.specs.Prelude.{None}
use Rattle.std.proofs.lemmas.Result.{err_from_is_err_and}
use Rattle.words.specs.Numbers.{number}
use Rattle.words.proofs.TokenLaws.{token-word}
use Rattle.words.proofs.NumberLaws.{relation-some, relation-none}
use Rattle.reading.proofs.StepLaws.{first-bad, stops-word}
use Rattle.reading.proofs.terms.read_term.Goals.{Then-is_some, Else-is_some}
use Rattle.reading.proofs.terms.read_term.Goals as goal

pub returns-then-is_some : goal.returns-then-is_some
returns-then-is_some c =
    let r = relation-some c.in-Word.word.now c.read_relation.result c.read_relation.ensures (sym c.is_some.ensures ∙ c.if-is_some.true) in
    (c.in-Some.ensures, stops-word (token-word (c.in-Some.ensures).0 c.in-Word.is) r)

pub returns-in_err-coef : goal.returns-in_err-coef
returns-in_err-coef c =
    let p = err_from_is_err_and c.from_residual.result c.from_residual.ensures.1 in
    let r = relation-none c.in-Word.word.now c.read_relation.result c.read_relation.ensures (sym c.is_some.ensures ∙ c.if-is_some.false) in
    let n : number c.in-Word.word.now ≡ None = search rules in
    rw p.1 (first-bad (token-word (c.in-Some.ensures).0 c.in-Word.is) r n)
