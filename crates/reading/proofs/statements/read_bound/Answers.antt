-- By the tokens: no word, a word that is no number, or no `;` after it, and no row goes on so; else the bound.
use mathlib.Core.Path.{sym, subst}
use Rattle.words.proofs.TokenLaws.{token-word, token-stop}
use Rattle.reading.specs.Steps.{BoundIs}
use Rattle.reading.proofs.StatementLaws.{bound-end, bound-stop, bound-bad, bound-open, bound-more}
use Rattle.reading.proofs.statements.read_bound.Goals as goal

pub returns-in_err-next : goal.returns-in_err-next
returns-in_err-next c = subst (BoundIs c.args.text.now) (sym c.from_residual.ensures) (bound-end c.in_err-next.ensures)

pub returns-in_default : goal.returns-in_default
returns-in_default c = bound-stop (token-stop (c.in_ok-next.ensures).0 c.in_default.is)

pub returns-in_err-value : goal.returns-in_err-value
returns-in_err-value c =
    subst (BoundIs c.args.text.now) (sym c.from_residual-in_err-value.ensures)
    (bound-bad (token-word (c.in_ok-next.ensures).0 c.in-Word.is) (sym c.in_err-value.ensures))

pub returns-in_err-last : goal.returns-in_err-last
returns-in_err-last c =
    subst (BoundIs c.args.text.now) (sym c.from_residual-in_err-last.ensures)
    (bound-open (token-word (c.in_ok-next.ensures).0 c.in-Word.is) c.in_err-last.ensures)

pub returns-in_default-token : goal.returns-in_default-token
returns-in_default-token c =
    bound-more (token-word (c.in_ok-next.ensures).0 c.in-Word.is) (token-word (c.in_ok-last.ensures).0 c.in_default-token.is)
