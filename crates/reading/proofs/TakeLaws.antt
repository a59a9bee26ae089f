-- One statement more is taken: the tables hold its entry, and the rest of the text decides. Assumes nothing.
use mathlib.Core.Path.{◌≡◌, sym, ap, ap₂, ◌∙◌, subst}
use mathlib.Core.Bool.{not, cond}
use mathlib.Core.List.{List, [], ◌∷◌, ◌++◌}
use Prim.Native.Nat.{ℕ, suc, ◌+◌, ◌-◌, ◌*◌, ◌≤◌, ◌<◌, max}
use native.Mathlib.Omega.{arith}
use native.Mathlib.Numerals.{add-one}
use lib.Dec.{eqb}
use lib.IntN.{ℤ, pos, nat_abs}
use lib.ListN.{length, length-append}
use lib.Seq.{sets}
use borrow.Author.Tests.{ltb-false}
use Rattle.words.specs.declared.Place.{Place}
use Rattle.words.specs.declared.Place.TheVariants.{Inside}
use Rattle.words.specs.Tokens.{Mark, marks_at}
use Rattle.instance.specs.Kinds.{number_of}
use Rattle.instance.specs.Limits.{max_terms, max_entries, max_bound, row_room}
use Rattle.instance.specs.Terms.{highest}
use Rattle.instance.specs.Rows.{Entry}
use Rattle.instance.specs.Layout.{all_terms, term_table, row_table}
use Rattle.instance.proofs.SumLaws.{highest-append}
use Rattle.reading.specs.declared.statements.Statement.{Statement}
use Rattle.reading.specs.declared.verdicts.Taken.{Taken}
use Rattle.reading.specs.Grammar.{statement}
use Rattle.reading.specs.Reading.{is_first, verdict, go_on, add_to, read_marks}
use Rattle.reading.specs.Stored.{stored}
use Rattle.reading.specs.Steps.{rest_after, EntryRead}
use Rattle.reading.specs.Outcomes.{OneMore}
use Rattle.reading.proofs.FillLaws.{all_terms-last, terms-next, rows_next}
use Rattle.reading.proofs.ReadLaws.{Taking, goes}
use Rattle.reading.proofs.VerdictLaws.{Fine, verdict-zero, added-last, added-objectives, added-rows}

module _ {text : List ℕ} {found rows now rows' : List ℤ} {rest : List ℕ} {place : Place} {number : ℕ} {taken : Taken} (t : Taking text found rows now rows' rest place number taken)
    {now' : List ℤ} {s : Statement} (e : EntryRead statement (marks_at place rest) (length rest) taken.terms now now' s) (v : verdict t.os t.rs e.entry ≡ 0) where
  -- the entries before, and those then
  before : List Entry
  before = t.os ++ t.rs

  os' : List Entry
  os' = add_to (is_first e.entry) t.os e.entry

  rs' : List Entry
  rs' = add_to (not (is_first e.entry)) t.rs e.entry

  fine : Fine t.os t.rs e.entry
  fine = verdict-zero t.os t.rs e.entry v

  then : os' ++ rs' ≡ before ++ (e.entry ∷ [])
  unfolding os' rs' before
  then = added-last fine

  -- all terms then
  terms-then : all_terms (os' ++ rs') ≡ all_terms before ++ e.entry.terms
  terms-then = ap all_terms then ∙ all_terms-last before e.entry

  terms-count : length (all_terms (os' ++ rs')) ≡ taken.terms + s.count
  unfolding before
  terms-count = ap length terms-then ∙ length-append (all_terms before) e.entry.terms ∙ ap₂ ◌+◌ (sym t.total_is) (sym e.count)

  pub entries-room : taken.objectives + taken.rows < max_entries
  unfolding os' rs' before
  entries-room = omega (arith, counted, t.objectives_is, t.rows_is, (added-objectives fine t.few_objectives).1, (added-rows fine t.few_rows).1)
    where
      counted : length os' + length rs' ≡ suc (length t.os + length t.rs)
      counted = sym (length-append os' rs') ∙ ap length then ∙ length-append before (e.entry ∷ []) ∙ ap (λ (n : ℕ). n + 1) (length-append t.os t.rs) ∙ add-one (length t.os + length t.rs)

  -- the bound is in range
  pub bound-small : nat_abs s.bound ≤ max_bound
  bound-small = omega (arith, ap nat_abs e.bound, ltb-false max_bound (nat_abs e.entry.bound) fine.bound)

  pub taking_step : row_room ≤ length rows → {rows'' : List ℤ}
      → rows'' ≡ sets rows' ((taken.objectives + taken.rows) * 4) (pos (number_of s.kind) ∷ (pos taken.terms ∷ (pos s.count ∷ (s.bound ∷ []))))
      → (next : Taken) → OneMore taken s next
      → Taking text found rows now' rows'' s.rest.now Inside (number + 1) next
  unfolding os' rs' before
  taking_step room {rows''} r next o = record {
    os = os';
    rs = rs';
    few_statements = omega (arith, t.few_statements, e.few);
    objectives_is = o.objectives ∙ ap₂ ◌+◌ t.objectives_is one-is ∙ sym (added-objectives fine t.few_objectives).0;
    rows_is = o.rows ∙ ap₂ (λ (a b : ℕ). a + (1 - b)) t.rows_is one-is ∙ sym (added-rows fine t.few_rows).0;
    total_is = o.terms ∙ sym terms-count;
    top_is = o.top ∙ ap₂ max t.top_is e.top ∙ sym (ap highest terms-then ∙ highest-append (all_terms before) e.entry.terms);
    few_objectives = (added-objectives fine t.few_objectives).1;
    few_rows = (added-rows fine t.few_rows).1;
    few_terms = subst (λ (k : ℕ). k ≤ max_terms) (sym (ap length terms-then ∙ length-append (all_terms before) e.entry.terms)) fine.terms;
    terms_left = e.left ∙ ap₂ (λ (l : List ℤ) (k : ℕ). stored l k e.entry.terms) t.terms_left t.total_is
        ∙ terms-next before e.entry found fine.wide fine.unnamed fine.terms ∙ ap (λ (l : List Entry). term_table l found) (sym then);
    rows_left = r ∙ row-numbers ∙ rows_next before e.entry rows few room ∙ ap (λ (l : List Entry). row_table l rows) (sym then);
    says = goes t e ∙ ap (λ (k : ℕ). go_on k number (read_marks (suc number) os' rs' (rest_after (marks_at place rest)))) v
        ∙ ap₂ (λ (k : ℕ) (ms : List Mark). read_marks k os' rs' ms) (sym (add-one number)) e.rest;
  }
    where
      one-is : ◌≡◌ {A = ℕ} (cond (eqb (number_of s.kind) 1) 1 0) (cond (is_first e.entry) 1 0)
      one-is = ap (λ (k : ℕ). cond (eqb k 1) 1 0) e.kind

      few : length before < max_entries
      few = omega (arith, entries-room, length-append t.os t.rs, t.objectives_is, t.rows_is)

      places : taken.objectives + taken.rows ≡ length before
      places = ap₂ ◌+◌ t.objectives_is t.rows_is ∙ sym (length-append t.os t.rs)

      row-numbers : sets rows' ((taken.objectives + taken.rows) * 4) (pos (number_of s.kind) ∷ (pos taken.terms ∷ (pos s.count ∷ (s.bound ∷ []))))
          ≡ sets (row_table before rows) (length before * 4) (pos e.entry.kind ∷ (pos (length (all_terms before)) ∷ (pos (length e.entry.terms) ∷ (e.entry.bound ∷ []))))
      row-numbers =
          ap₂ (λ (l : List ℤ) (k : ℕ). sets l (k * 4) (pos (number_of s.kind) ∷ (pos taken.terms ∷ (pos s.count ∷ (s.bound ∷ []))))) t.rows_left places
          ∙ ap₂ (λ (a b : ℕ). sets (row_table before rows) (length before * 4) (pos a ∷ (pos b ∷ (pos s.count ∷ (s.bound ∷ []))))) e.kind t.total_is
          ∙ ap₂ (λ (a : ℕ) (z : ℤ). sets (row_table before rows) (length before * 4) (pos e.entry.kind ∷ (pos (length (all_terms before)) ∷ (pos a ∷ (z ∷ []))))) e.count e.bound
