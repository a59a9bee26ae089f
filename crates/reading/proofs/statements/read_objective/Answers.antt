-- By where the run of terms stops: only a `;` ends an objective.
use borrow.Author.Rules.{rules}
use mathlib.Core.Path.{◌≡◌, refl}
use Rattle.std.specs.Prelude.{None, Some}
use Rattle.std.proofs.lemmas.Result.{err_from_is_err_and}
use Rattle.words.specs.declared.Place.TheVariants.{Inside}
use Rattle.words.proofs.TokenLaws.{token-none, token-some, token-word, token-stop}
use Rattle.reading.proofs.ClosingLaws.{objective-end, objective-word, objective-done}
use Rattle.reading.proofs.StepLaws.{stopped}
use Rattle.reading.proofs.statements.read_objective.Goals as goal

pub returns-in_err-next : goal.returns-in_err-next
returns-in_err-next c =
    let p = err_from_is_err_and c.from_residual-in_err-next.result c.from_residual-in_err-next.ensures.1 in
    let n : c.in_ok-read.read.stop ≡ None = search rules in
    rw p.1 (record { kept = c.read_terms.ensures.kept; closes = objective-end (c.in_ok-read.ensures).run.run (token-none c.in_ok-read.read.run.rest.now Inside (c.in_ok-read.ensures).run.next n) })

pub returns-in_default : goal.returns-in_default
returns-in_default c =
    let n : c.in_ok-read.read.stop ≡ Some c.in_ok-next.next = search rules in
    let t = token-word (token-some c.in_ok-read.read.run.rest.now Inside (c.in_ok-read.ensures).run.next n).0 c.in_default.is in
    record {
      kept = c.read_terms.ensures.kept;
      closes = λ _. objective-word (c.in_ok-read.ensures).run.run t (stopped t (c.in_ok-read.ensures).run.stop);
    }

pub returns : goal.returns
returns c =
    let n : c.in_ok-read.read.stop ≡ Some c.in_ok-next.next = search rules in
    let t = token-some c.in_ok-read.read.run.rest.now Inside (c.in_ok-read.ensures).run.next n in
    record {
      kept = c.read_terms.ensures.kept;
      closes = objective-done (c.in_ok-read.ensures).run.run (token-stop t.0 c.in-Stop.is) _ refl t.1 refl refl refl refl refl refl;
    }
