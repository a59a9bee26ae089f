use borrow.Author.Rules.{rules}
use mathlib.Core.Path.{◌≡◌, sym, ap, ◌∙◌, subst}
use mathlib.Core.List.{[], ◌∷◌}
use Prim.Native.Nat.{◌+◌, ◌*◌}
use lib.IntN.{pos}
use lib.ListN.{length}
use lib.Seq.{sets}
use Rattle.instance.specs.Kinds.{number_of}
use Rattle.std.specs.Prelude.{Option, Result, Ok, Err}
use Rattle.std.proofs.lemmas.Result.{err_from_is_err_and}
use Rattle.words.specs.Tokens.{marks_at}
use Rattle.reading.specs.declared.terms.Malformed.{Malformed}
use Rattle.reading.specs.declared.statements.Statement.{Statement}
use Rattle.reading.specs.Grammar.{statement}
use Rattle.reading.specs.Steps.{Begins, EntryRead}
use Rattle.reading.specs.Outcomes.{VerdictIs}
use Rattle.reading.proofs.ReadLaws.{taking-start, taking-none, taking-done, taking-broken, taking-refused, verdict-is}
use Rattle.reading.proofs.TakeLaws.{taking_step}
use Rattle.reading.proofs.texts.read_statements.Goals.{After-read_statement, In-Some}
use Rattle.reading.proofs.texts.read_statements.Goals as goal

-- What the statement begins with, where its answer is known.
begun : (c : After-read_statement) {r : Result (Option Statement) Malformed} → c.read_statement.result ≡ r
    → Begins (marks_at c.loop-next.place c.loop-next.rest.now) (length c.loop-next.rest.now) c.loop-next.taken.terms c.loop-next.terms c.read_statement.new.terms r
begun c e = subst (Begins (marks_at c.loop-next.place c.loop-next.rest.now) (length c.loop-next.rest.now) c.loop-next.taken.terms c.loop-next.terms c.read_statement.new.terms) e c.read_statement.ensures.begins

entry : (c : In-Some) → EntryRead statement (marks_at c.loop-next.place c.loop-next.rest.now) (length c.loop-next.rest.now) c.loop-next.taken.terms c.loop-next.terms c.read_statement.new.terms c.in-Some.s
entry c = subst (Begins (marks_at c.loop-next.place c.loop-next.rest.now) (length c.loop-next.rest.now) c.loop-next.taken.terms c.loop-next.terms c.read_statement.new.terms) (c.in-Ok.is ∙ ap Ok c.in-Some.is) c.read_statement.ensures.begins

pub loop-next-init : goal.loop-next-init
loop-next-init c = taking-start c.args.text.now c.args.terms.now c.args.rows.now c.requires.terms_value c.requires.rows_value

pub returns-in_default : goal.returns-in_default
returns-in_default c =
    let b = begun (goal.at.returns-in_default c).After-read_statement c.in_default.is in
    taking-broken c.loop-next.invariant c.read_statement.ensures.kept b.0 b.1

pub returns-in_err-check : goal.returns-in_err-check
returns-in_err-check c =
    let p = err_from_is_err_and c.from_residual.result c.from_residual.ensures.1 in
    let e = entry (goal.at.returns-in_err-check c).In-Some in
    let f : c.check.result ≡ Err c.in_err-check.field-0.0 = search rules in
    let v = subst (VerdictIs _ c.loop-next.number) f c.check.ensures in
    rw (p.1, p.2) (taking-refused c.loop-next.invariant e c.read_statement.ensures.kept _ v.0 (verdict-is c.loop-next.invariant e) v.1)

pub loop-next-preserved : goal.loop-next-preserved
loop-next-preserved c =
    let e = entry (goal.at.loop-next-preserved c).In-Some in
    let f : c.check.result ≡ Ok tt = search rules in
    let v = sym (verdict-is c.loop-next.invariant e) ∙ subst (VerdictIs _ c.loop-next.number) f c.check.ensures in
    let r : c.store_entry.new.rows ≡ sets c.loop-next.rows ((c.loop-next.taken.objectives + c.loop-next.taken.rows) * 4)
    (pos (number_of c.in-Some.s.kind) ∷ (pos c.loop-next.taken.terms ∷ (pos c.in-Some.s.count ∷ (c.in-Some.s.bound ∷ [])))) = search rules in
    taking_step c.loop-next.invariant e v c.requires.row_room_in_bounds r c.with-taken.result c.with-taken.ensures

pub returns-then-taken-eq0 : goal.returns-then-taken-eq0
returns-then-taken-eq0 c =
    let b = begun (goal.at.returns-then-taken-eq0 c).After-read_statement (c.in-Ok.is ∙ ap Ok c.in_default-next.is) in
    taking-none c.loop-next.invariant b.1 b.0 c.if-taken-eq0.true

pub returns : goal.returns
returns c =
    let b = begun (goal.at.returns c).After-read_statement (c.in-Ok.is ∙ ap Ok c.in_default-next.is) in
    taking-done c.loop-next.invariant b.1 b.0 c.if-taken-eq0.false
