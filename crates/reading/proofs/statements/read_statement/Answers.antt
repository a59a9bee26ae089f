-- By the first token: nothing, an empty statement, an objective after `min:`, or a row that begins with this very word.
use mathlib.Core.Path.{◌≡◌, refl, sym, subst, ◌∙◌}
use native.Mathlib.Omega.{arith}
use lib.ListN.{length}
use mathlib.Core.Bool.{true}
use mathlib.Core.List.{List}
use Rattle.std.specs.Prelude.{None}
use Rattle.reading.specs.Grammar.{row}
use Rattle.reading.specs.Steps.{first_words, is_closed, EntryRead}
use Rattle.std.proofs.lemmas.Result.{err_from_is_err_and}
use Rattle.words.specs.Tokens.{Mark}
use Rattle.words.proofs.TokenLaws.{token-word, token-stop}
use Rattle.reading.proofs.WholeLaws.{statement-empty, word-some, min-broken, min-entry, row-broken, row-entry}
use Rattle.reading.proofs.statements.read_statement.Goals as goal

pub returns-in_default-token : goal.returns-in_default-token
returns-in_default-token c =
    record { kept = refl; begins = statement-empty (c.skip_blanks-start.ensures.same ∙ token-stop (c.in-Some.ensures).0 c.in_default-token.is) }

pub returns-in_err-read_objective : goal.returns-in_err-read_objective
returns-in_err-read_objective c =
    let p = err_from_is_err_and c.from_residual.result c.from_residual.ensures.1 in
    let w = c.skip_blanks-start.ensures.same ∙ token-word (c.in-Some.ensures).0 c.in-Word.is in
    rw p.1 (record { kept = c.read_objective.ensures.kept; begins = (word-some w, min-broken w (sym c.is_min.ensures ∙ c.if-is_min.true) (c.in_err-read_objective.ensures).closes) })

pub returns-then-is_min : goal.returns-then-is_min
returns-then-is_min c =
    let w = c.skip_blanks-start.ensures.same ∙ token-word (c.in-Some.ensures).0 c.in-Word.is in
    record {
      kept = c.read_objective.ensures.kept;
      begins = min-entry w (sym c.is_min.ensures ∙ c.if-is_min.true) (omega (arith, (c.in-Some.ensures).1, c.skip_blanks-start.ensures.few)) (c.in_ok-read_objective.ensures).closes;
    }

pub returns-in_err-read_row : goal.returns-in_err-read_row
returns-in_err-read_row c =
    let p = err_from_is_err_and c.from_residual-in_err-read_row.result c.from_residual-in_err-read_row.ensures.1 in
    let s = c.skip_blanks-start.ensures.same in
    let w = s ∙ token-word (c.in-Some.ensures).0 c.in-Word.is in
    rw p.1 (record { kept = c.read_row.ensures.kept; begins = (word-some w, row-broken w (sym c.is_min.ensures ∙ c.if-is_min.false) (subst (λ (ms : List Mark). is_closed ms ≡ true → row (first_words ms) ≡ None) (sym s) (c.in_err-read_row.ensures).closes)) })

pub returns : goal.returns
returns c =
    let s = c.skip_blanks-start.ensures.same in
    let w = s ∙ token-word (c.in-Some.ensures).0 c.in-Word.is in
    record {
      kept = c.read_row.ensures.kept;
      begins = row-entry w (sym c.is_min.ensures ∙ c.if-is_min.false) c.skip_blanks-start.ensures.few
          (subst (λ (ms : List Mark). EntryRead row ms (length c.skip_blanks-start.result.now) c.args.base c.args.terms.now c.read_row.new.terms c.in_ok-read_row.field-0) (sym s) (c.in_ok-read_row.ensures).closes);
    }
