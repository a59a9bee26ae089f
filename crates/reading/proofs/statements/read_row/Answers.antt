-- By where the run of terms stops: only a relation goes on, with a bound and a `;`.
use borrow.Author.Rules.{rules}
use mathlib.Core.Path.{◌≡◌, refl, subst}
use Rattle.std.specs.Prelude.{None, Some}
use Rattle.std.proofs.lemmas.Result.{err_from_is_err_and}
use mathlib.Core.Bool.{◌||◌}
use lib.Dec.{ltb}
use lib.IntN.{nat_abs}
use mir.Syntax.{w64}
use mir.Val.{to_z, of_z}
use Rattle.instance.specs.Limits.{max_bound}
use Rattle.words.specs.Answers.{RelationIs}
use Rattle.words.specs.declared.Place.TheVariants.{Inside}
use Rattle.words.proofs.TokenLaws.{token-none, token-some, token-word, token-stop}
use Rattle.reading.specs.Steps.{BoundIs}
use Rattle.reading.proofs.ClosingLaws.{row-end-none, row-stop, row-unbound, row_done}
use Rattle.reading.proofs.StepLaws.{stopped}
use Rattle.reading.proofs.statements.read_row.Goals as goal

pub returns-in_err-next : goal.returns-in_err-next
returns-in_err-next c =
    let p = err_from_is_err_and c.from_residual-in_err-next.result c.from_residual-in_err-next.ensures.1 in
    let n : c.in_ok-read.read.stop ≡ None = search rules in
    rw p.1 (record { kept = c.read_terms.ensures.kept; closes = row-end-none (c.in_ok-read.ensures).run.run (token-none c.in_ok-read.read.run.rest.now Inside (c.in_ok-read.ensures).run.next n) })

pub returns-in_default : goal.returns-in_default
returns-in_default c =
    let n : c.in_ok-read.read.stop ≡ Some c.in_ok-next.next = search rules in
    record {
      kept = c.read_terms.ensures.kept;
      closes = λ _. row-stop (c.in_ok-read.ensures).run.run (token-stop (token-some c.in_ok-read.read.run.rest.now Inside (c.in_ok-read.ensures).run.next n).0 c.in_default.is);
    }

pub returns-in_err-bound : goal.returns-in_err-bound
returns-in_err-bound c =
    let p = err_from_is_err_and c.from_residual-in_err-bound.result c.from_residual-in_err-bound.ensures.1 in
    let n : c.in_ok-read.read.stop ≡ Some c.in_ok-next.next = search rules in
    let b : c.read_bound.result ≡ None = search rules in
    let t = token-word (token-some c.in_ok-read.read.run.rest.now Inside (c.in_ok-read.ensures).run.next n).0 c.in-Word.is in
    rw p.1 (record {
      kept = c.read_terms.ensures.kept;
      closes = row-unbound (c.in_ok-read.ensures).run.run t (stopped t (c.in_ok-read.ensures).run.stop) (subst (BoundIs c.in_ok-next.next.rest.now) b c.read_bound.ensures);
    })

pub returns : goal.returns
returns c =
    let v : to_z w64 (of_z w64 c.in_ok-bound.bound.value) ≡ c.in_ok-bound.bound.value = search rules in
    let f : c.if-run.result ≡ c.in_ok-read.read.run.wide || ltb max_bound (nat_abs c.in_ok-bound.bound.value) = search rules in
    let n : c.in_ok-read.read.stop ≡ Some c.in_ok-next.next = search rules in
    let b : c.read_bound.result ≡ Some c.in_ok-bound.bound = search rules in
    let k : c.read_relation.result ≡ Some c.in_ok-kind.kind = search rules in
    let t = token-some c.in_ok-read.read.run.rest.now Inside (c.in_ok-read.ensures).run.next n in
    let w = token-word t.0 c.in-Word.is in
    record {
      kept = c.read_terms.ensures.kept;
      closes = row_done (c.in_ok-read.ensures).run.run w (stopped w (c.in_ok-read.ensures).run.stop) refl t.1 c.in_ok-bound.bound
          (subst (BoundIs c.in_ok-next.next.rest.now) b c.read_bound.ensures) _ refl
          (subst (RelationIs c.in-Word.word.now) k c.read_relation.ensures).0 refl v f refl refl;
    }
