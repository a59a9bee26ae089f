-- Each part of the check decides a part of what makes tables an instance: a part that refuses shows that they are none, and when all
-- are passed the parts together are an instance.
use borrow.Author.Rules.{rules}
use mathlib.Core.Path.{◌≡◌, sym, subst}
use Prim.Native.Nat.{ℕ, ◌+◌, ◌*◌}
use native.Mathlib.Omega.{arith}
use Rattle.std.specs.Prelude.{Some}
use Rattle.instance.specs.Limits.{term_room, row_room}
use Rattle.instance.specs.Tables.{ZeroFrom, objectives_in, rows_in, entries_in, terms_in}
use Rattle.instance.specs.Parts.{TotalOf, NamedIn, NoBounds, EntriesOk}
use Rattle.instance.proofs.TestLaws.{accepted}
use Rattle.instance.proofs.TableLaws.{rows_in-from, entries_in-from, part-zero, zero-part}
use Rattle.instance.proofs.tables.Instance.of.Goals.{After-rows_of-count, After-highest_of}
use Rattle.instance.proofs.tables.Instance.of.Goals as goal

objectives : (c : After-rows_of-count) → c.objectives_of-objectives.result ≡ objectives_in c.args.rows.now
objectives c = c.objectives_of-objectives.ensures

rows : (c : After-rows_of-count) → c.rows_of-count.result ≡ rows_in c.args.rows.now
rows c = rows_in-from c.args.rows.now c.objectives_of-objectives.result c.rows_of-count.result (objectives c) c.rows_of-count.ensures

used : (c : After-rows_of-count) → c.objectives_of-objectives.result + c.rows_of-count.result ≡ entries_in c.args.rows.now
used c = entries_in-from c.args.rows.now c.objectives_of-objectives.result c.rows_of-count.result c.objectives_of-objectives.ensures c.rows_of-count.ensures

pub returns-then-not-all_are : goal.returns-then-not-all_are
returns-then-not-all_are c h =
    let z : ZeroFrom c.args.rows.now ((c.objectives_of-objectives.result + c.rows_of-count.result) * 4) row_room
    = subst (λ (n : ℕ). ZeroFrom c.args.rows.now (n * 4) row_room) (sym (used (goal.at.returns-then-not-all_are c).After-rows_of-count)) h.unused in
    let p = zero-part c.args.rows.now _ row_room h.rows_room z in
    search rules

-- The total, where it was counted, is that of all entries.
counted : (c : After-highest_of) → EntriesOk c.args.rows.now (entries_in c.args.rows.now) × (c.in_ok-total.total ≡ terms_in c.args.rows.now)
counted c =
    let t : c.total_of.result ≡ Some c.in_ok-total.total = search rules in
    subst (TotalOf c.args.rows.now (entries_in c.args.rows.now)) t
    (subst (λ (n : ℕ). TotalOf c.args.rows.now n c.total_of.result)
    (entries_in-from c.args.rows.now c.objectives_of-objectives.result c.rows_of-count.result c.objectives_of-objectives.ensures c.rows_of-count.ensures) c.total_of.ensures)

pub returns-then-not-all_are-2 : goal.returns-then-not-all_are-2
returns-then-not-all_are-2 c h =
    let total = (counted (goal.at.returns-then-not-all_are-2 c).After-highest_of).1 in
    let z : ZeroFrom c.args.terms.now (c.in_ok-total.total * 2) term_room
    = subst (λ (n : ℕ). ZeroFrom c.args.terms.now (n * 2) term_room) (sym total) h.rest in
    let p = zero-part c.args.terms.now _ term_room h.terms_room z in
    search rules

pub returns : goal.returns
returns c =
    let v : c.highest_of.result ≡ Some c.in_ok-variables.variables = search rules in
    let total = counted (goal.at.returns c).After-highest_of in
    let named : NamedIn c.args.terms.now (terms_in c.args.rows.now) (Some c.in_ok-variables.variables)
    = subst (NamedIn c.args.terms.now (terms_in c.args.rows.now)) v (subst (λ (n : ℕ). NamedIn c.args.terms.now n c.highest_of.result) total.1 c.highest_of.ensures) in
    record {
      is = record {
        terms_room = omega (arith, c.if-terms-lt-TERM_ROOM.false);
        rows_room = omega (arith, c.if-rows-lt-ROW_ROOM.false);
        some_objective = omega (arith, objectives (goal.at.returns c).After-rows_of-count, c.if-objectives-lt1.false);
        few_objectives = omega (arith, objectives (goal.at.returns c).After-rows_of-count, c.if-objectives-gt-MAX_OBJECTIVES.false);
        few_rows = omega (arith, rows (goal.at.returns c).After-rows_of-count, c.if-count-gt-MAX_ROWS.false);
        unused = subst (λ (n : ℕ). ZeroFrom c.args.rows.now (n * 4) row_room) (used (goal.at.returns c).After-rows_of-count) (part-zero c.args.rows.now _ row_room (omega arith) (search rules));
        used = total.0.used;
        few_terms = total.0.few_terms;
        no_bound = subst (NoBounds c.args.rows.now) (objectives (goal.at.returns c).After-rows_of-count) (accepted c.no_bounds.ensures c.if-not-no_bounds.false);
        terms = named.0;
        rest = subst (λ (n : ℕ). ZeroFrom c.args.terms.now (n * 2) term_room) total.1 (part-zero c.args.terms.now _ term_room (omega arith) (search rules));
      };
      objectives = objectives (goal.at.returns c).After-rows_of-count;
      rows = rows (goal.at.returns c).After-rows_of-count;
      terms = total.1;
      variables = named.1;
    }
