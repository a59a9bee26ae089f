use borrow.Author.Rules.{rules}
use mathlib.Core.Path.{◌≡◌, refl, subst}
use Prim.Native.Nat.{◌+◌}
use Rattle.std.specs.Prelude.{Ok}
use Rattle.std.proofs.lemmas.Result.{err_from_is_err_and}
use Rattle.reading.specs.declared.terms.Step.{Step}
use Rattle.reading.specs.Stored.{term_of, store_at}
use Rattle.reading.specs.Steps.{StepIs}
use Rattle.reading.proofs.ParseLaws.{broken-back}
use Rattle.reading.proofs.RunLaws.{run-start, run-kept, run-step}
use Rattle.reading.proofs.terms.read_terms.Goals as goal

pub loop-stop-init : goal.loop-stop-init
loop-stop-init c = run-start c.args.text.now c.args.base c.args.terms.now _ refl refl refl refl refl

pub returns-in_err-stop : goal.returns-in_err-stop
returns-in_err-stop c =
    let p = err_from_is_err_and c.from_residual.result c.from_residual.ensures.1 in
    rw p.1 (record { kept = run-kept c.loop-stop.invariant; run = broken-back c.loop-stop.invariant.terms c.loop-stop.invariant.reached c.in_err-stop.ensures })

pub returns-in-Stop : goal.returns-in-Stop
returns-in-Stop c =
    let s = subst (λ (o : Step). StepIs c.loop-stop.run.rest.now (Ok o)) c.in-Stop.is c.in_ok-stop.ensures in
    record { kept = run-kept c.loop-stop.invariant; run = record { run = c.loop-stop.invariant; next = s.0; stop = s.1 } }

pub loop-stop-preserved : goal.loop-stop-preserved
loop-stop-preserved c =
    let s : c.store_term.new.terms ≡ store_at c.loop-stop.terms (c.args.base + c.loop-stop.run.count) (term_of c.in-Term.t.coef c.in-Term.t.lit) = search rules in
    run-step c.loop-stop.invariant c.in-Term.t c.with-run.result
    (subst (λ (o : Step). StepIs c.loop-stop.run.rest.now (Ok o)) c.in-Term.is c.in_ok-stop.ensures) c.with-run.ensures s
