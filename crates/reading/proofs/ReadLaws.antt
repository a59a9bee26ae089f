-- The statements of a text in turn: what holds before each, and what reading comes to. Assumes nothing.
use mathlib.Core.Path.{◌≡◌, refl, sym, ap, ◌∙◌, subst}
use mathlib.Core.Bool.{Bool, true, false, not}
use mathlib.Core.List.{List, [], ◌∷◌, ◌++◌}
use Prim.Native.Nat.{ℕ, zero, suc, ◌+◌, ◌≤◌}
use native.Mathlib.Omega.{arith}
use lib.Dec.{T}
use lib.IntN.{ℤ}
use lib.ListN.{length, drop, length-append}
use Rattle.std.specs.Prelude.{Ok, Err, None}
use Rattle.words.specs.declared.Place.{Place}
use Rattle.words.specs.declared.Place.TheVariants.{Start}
use Rattle.words.specs.Tokens.{marks_at}
use Rattle.instance.specs.Kinds.{number_of}
use Rattle.instance.specs.Limits.{max_objectives, max_rows, max_terms, max_entries, term_room, row_room}
use Rattle.instance.specs.Terms.{highest}
use Rattle.instance.specs.Rows.{Entry}
use Rattle.instance.specs.Layout.{all_terms, term_numbers, entry_numbers, term_table, row_table}
use Rattle.reading.specs.declared.statements.Statement.{Statement}
use Rattle.reading.specs.declared.verdicts.Taken.{Taken}
use Rattle.reading.specs.declared.errors.ReadError.{ReadError}
use Rattle.reading.specs.declared.errors.ReadError.TheVariants.{Grammar, NoObjective}
use Rattle.reading.specs.Grammar.{statement}
use Rattle.reading.specs.Reading.{Outcome, accepted, refused, is_first, verdict, go_on, add_to, finish, read_marks, read_bytes}
use Rattle.reading.specs.Steps.{first_words, is_closed, rest_after, Kept, EntryRead}
use Rattle.reading.specs.Outcomes.{late_by, full_by, verdict_by, ReadIs}
use Rattle.reading.specs.Answers.{refusal_of, answer_of}
use Rattle.reading.proofs.FillLaws.{fill-length, fill-beyond, terms-room, rows-room}
use Rattle.reading.proofs.MarksLaws.{marks-broken, marks-entry, marks-none}
use Rattle.reading.proofs.VerdictLaws.{verdict-as}

-- What holds before each statement: the entries so far, which the tables hold; and what is left of the text decides what it says.
pub record Taking (text : List ℕ) (found rows now rows' : List ℤ) (rest : List ℕ) (place : Place) (number : ℕ) (taken : Taken) : Type 0 where
  pub os : List Entry
  pub rs : List Entry
  pub few_statements : number + length rest ≤ length text + 1
  pub objectives_is : taken.objectives ≡ length os
  pub rows_is : taken.rows ≡ length rs
  pub total_is : taken.terms ≡ length (all_terms (os ++ rs))
  pub top_is : taken.top ≡ highest (all_terms (os ++ rs))
  pub few_objectives : length os ≤ max_objectives
  pub few_rows : length rs ≤ max_rows
  pub few_terms : length (all_terms (os ++ rs)) ≤ max_terms
  pub terms_left : now ≡ term_table (os ++ rs) found
  pub rows_left : rows' ≡ row_table (os ++ rs) rows
  pub says : read_bytes text ≡ read_marks number os rs (marks_at place rest)

pub taking-start : (text : List ℕ) (found rows : List ℤ) → found ≡ term_table [] found → rows ≡ row_table [] rows
    → Taking text found rows found rows text Start 1 (record { objectives = 0; rows = 0; terms = 0; top = 0 })
unfolding all_terms highest
taking-start text found rows t r = record {
  os = [];
  rs = [];
  few_statements = omega arith;
  objectives_is = refl;
  rows_is = refl;
  total_is = refl;
  top_is = refl;
  few_objectives = omega arith;
  few_rows = omega arith;
  few_terms = omega arith;
  terms_left = t;
  rows_left = r;
  says = refl;
}

-- a refusal is no instance
is_taken : Outcome → Bool
is_taken (accepted os rs) = true
is_taken (refused k s) = false

not-taken : {k s : ℕ} {os rs : List Entry} {o : Outcome} → o ≡ refused k s → o ≡ accepted os rs → {A : Type 0} → A
unfolding is_taken
not-taken e f = absurd (subst T (ap is_taken (sym f ∙ e)) tt)

same-os : {os rs os' rs' : List Entry} → accepted os rs ≡ accepted os' rs' → os ++ rs ≡ os' ++ rs'
same-os e = ap entries e
  where
    entries : Outcome → List Entry
    entries (accepted os rs) = os ++ rs
    entries (refused k s) = []

module _ {text : List ℕ} {found rows now rows' : List ℤ} {rest : List ℕ} {place : Place} {number : ℕ} {taken : Taken} (t : Taking text found rows now rows' rest place number taken) where
  entries-few : length (t.os ++ t.rs) ≤ max_entries
  entries-few = omega (arith, length-append t.os t.rs, t.few_objectives, t.few_rows)

  pub taking-total : taken.terms ≤ max_terms
  taking-total = omega (arith, t.total_is, t.few_terms)

  pub taking-terms : term_room ≤ length found → length now ≡ length found
  taking-terms h = ap length t.terms_left ∙ fill-length term_room (term_numbers (all_terms (t.os ++ t.rs))) found (terms-room (t.os ++ t.rs) t.few_terms) h

  pub taking-rows : row_room ≤ length rows → length rows' ≡ length rows
  taking-rows h = ap length t.rows_left ∙ fill-length row_room (entry_numbers 0 (t.os ++ t.rs)) rows (rows-room (t.os ++ t.rs) entries-few) h

  terms-beyond : drop term_room now ≡ drop term_room found
  terms-beyond = ap (drop term_room) t.terms_left ∙ fill-beyond term_room (term_numbers (all_terms (t.os ++ t.rs))) found (terms-room (t.os ++ t.rs) t.few_terms)

  rows-beyond : drop row_room rows' ≡ drop row_room rows
  rows-beyond = ap (drop row_room) t.rows_left ∙ fill-beyond row_room (entry_numbers 0 (t.os ++ t.rs)) rows (rows-room (t.os ++ t.rs) entries-few)

  -- a refusal at this statement
  refused-at : {now' : List ℤ} → Kept now now' → (k s : ℕ) → read_bytes text ≡ refused k s → {e : ReadError} → e ≡ refusal_of k s → ReadIs text found now' rows rows' (Err e)
  refused-at kept k s q r = record {
    answer = ap Err r ∙ sym (ap answer_of q);
    terms_kept = kept ∙ terms-beyond;
    rows_kept = rows-beyond;
    terms_left = λ os rs a. not-taken q a;
    rows_left = λ os rs a. not-taken q a;
  }

  -- nothing is left
  module _ {now' : List ℤ} (same : now' ≡ now) (none : marks_at place rest ≡ []) where
    ends : read_bytes text ≡ finish number t.os t.rs []
    ends = t.says ∙ marks-none number t.os t.rs (marks_at place rest) none

    -- no objective
    pub taking-none : taken.objectives ≡ 0 → ReadIs text found now' rows rows' (Err NoObjective)
    taking-none z = by t.os refl
      where
        by : (os : List Entry) → t.os ≡ os → ReadIs text found now' rows rows' (Err NoObjective)
        by [] e = refused-at (ap (drop term_room) same) 9 0 (ends ∙ ap (λ (l : List Entry). finish number l t.rs []) e) refl
        by (o ∷ os) e = absurd (omega (arith, t.objectives_is, ap length e))

    -- done
    pub taking-done : (taken.objectives ≡ 0 → ⊥) → ReadIs text found now' rows rows' (Ok taken.top)
    taking-done n = by t.os refl
      where
        by : (os : List Entry) → t.os ≡ os → ReadIs text found now' rows rows' (Ok taken.top)
        by [] e = absurd (n (t.objectives_is ∙ ap length e))
        by (o ∷ os) e =
            let whole : t.os ++ t.rs ≡ (o ∷ os) ++ t.rs = ap (λ (l : List Entry). l ++ t.rs) e in
            let q : read_bytes text ≡ accepted (o ∷ os) t.rs = ends ∙ ap (λ (l : List Entry). finish number l t.rs []) e in
            record {
              answer = ap Ok (t.top_is ∙ ap (λ (l : List Entry). highest (all_terms l)) whole) ∙ sym (ap answer_of q);
              terms_kept = ap (drop term_room) same ∙ terms-beyond;
              rows_kept = rows-beyond;
              terms_left = λ os' rs' a. same ∙ t.terms_left ∙ ap (λ (l : List Entry). term_table l found) (whole ∙ same-os (sym q ∙ a));
              rows_left = λ os' rs' a. t.rows_left ∙ ap (λ (l : List Entry). row_table l rows) (whole ∙ same-os (sym q ∙ a));
            }

  -- a statement that breaks the grammar
  pub taking-broken : {now' : List ℤ} → Kept now now' → 1 ≤ length (marks_at place rest) → (is_closed (marks_at place rest) ≡ true → statement (first_words (marks_at place rest)) ≡ None)
      → ReadIs text found now' rows rows' (Err (Grammar number))
  taking-broken kept some broken = refused-at kept 3 number (t.says ∙ marks-broken number t.os t.rs (marks_at place rest) some broken) refl

  -- an entry
  module _ {size : ℕ} {now' : List ℤ} {s : Statement} (e : EntryRead statement (marks_at place rest) size taken.terms now now' s) where
    -- what the text says goes by the verdict
    pub goes : read_bytes text ≡ go_on (verdict t.os t.rs e.entry) number (read_marks (suc number) (add_to (is_first e.entry) t.os e.entry) (add_to (not (is_first e.entry)) t.rs e.entry) (rest_after (marks_at place rest)))
    goes = t.says ∙ marks-entry number t.os t.rs (marks_at place rest) e.entry e.closed e.parsed

    pub verdict-is : verdict_by (late_by (number_of s.kind) taken.rows) (full_by (number_of s.kind) taken.objectives taken.rows) s.wide s.unnamed (taken.terms + s.count) ≡ verdict t.os t.rs e.entry
    verdict-is = verdict-as t.os t.rs e.entry e.kind t.objectives_is t.rows_is t.total_is e.count e.wide e.unnamed

    pub taking-refused : Kept now now' → (v : ℕ) → (v ≡ 0 → ⊥) → v ≡ verdict t.os t.rs e.entry → {r : ReadError} → r ≡ refusal_of v number → ReadIs text found now' rows rows' (Err r)
    taking-refused kept v n q r = refused-at kept v number (goes ∙ ap (λ (k : ℕ). go_on k number more) (sym q) ∙ stays v n) r
      where
        more : Outcome
        more = read_marks (suc number) (add_to (is_first e.entry) t.os e.entry) (add_to (not (is_first e.entry)) t.rs e.entry) (rest_after (marks_at place rest))

        stays : (k : ℕ) → (k ≡ 0 → ⊥) → go_on k number more ≡ refused k number
        stays zero y = absurd (y refl)
        stays (suc k) y = refl
