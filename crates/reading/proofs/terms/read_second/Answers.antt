-- By the token after the coefficient: a word that is a literal makes the term; any other breaks the grammar.
use mathlib.Core.Path.{sym, subst}
use Rattle.words.proofs.TokenLaws.{token-word, token-stop}
use Rattle.reading.specs.Steps.{SecondIs}
use Rattle.reading.proofs.StepLaws.{second-none, second-stop, second-bad}
use Rattle.reading.proofs.terms.read_second.Goals as goal

pub returns-in_err-next : goal.returns-in_err-next
returns-in_err-next c = subst (SecondIs c.args.text.now) (sym c.from_residual.ensures) (λ w r. second-none c.in_err-next.ensures w)

pub returns-in_default : goal.returns-in_default
returns-in_default c w r = second-stop (token-stop (c.in_ok-next.ensures).0 c.in_default.is) w

pub returns-in_err-lit : goal.returns-in_err-lit
returns-in_err-lit c =
    subst (SecondIs c.args.text.now) (sym c.from_residual-in_err-lit.ensures)
    (λ w r. second-bad (token-word (c.in_ok-next.ensures).0 c.in-Word.is) (sym c.in_err-lit.ensures) w r)
