-- The round trip by what the two operations promise: `write_text` writes `text_of` of its tables, `read_text` answers `read_answer` and
-- leaves `read_terms` and `read_rows`. Assumes nothing.
use mathlib.Core.Path.{◌≡◌, refl, sym, ap, ap₂, ◌∙◌, subst}
use mathlib.Core.Bool.{Bool, true, false, cond, ◌||◌}
use mathlib.Core.List.{List, ◌++◌}
use Prim.Native.Nat.{ℕ, ◌≤◌}
use native.Mathlib.Omega.{arith}
use borrow.Author.Tests.{le-ltb}
use lib.IntN.{ℤ}
use lib.ListN.{length, take}
use Rattle.std.specs.Prelude.{Result, Ok, Err}
use Rattle.instance.specs.Limits.{term_room, row_room}
use Rattle.instance.specs.Terms.{highest}
use Rattle.instance.specs.Rows.{Entry}
use Rattle.instance.specs.Tables.{IsInstance}
use Rattle.instance.specs.Meaning.{Instance, meaning}
use Rattle.instance.specs.Layout.{all_terms, term_table, row_table}
use Rattle.reading.specs.declared.errors.ReadError.{ReadError}
use Rattle.reading.specs.declared.errors.ReadError.TheVariants.{ShortTable, LongText}
use Rattle.reading.specs.Refusals.{refusal-some}
use Rattle.reading.specs.Limits.{max_text}
use Rattle.reading.specs.Reading.{Outcome, accepted, refused, read_bytes, instance_of}
use Rattle.reading.specs.Answers.{read_number, refusal_of, answer_of, entries_of, is_short, is_long, read_answer, read_terms, read_rows}
use Rattle.writing.specs.Answers.{text_of}
use Rattle.text.specs.RoundTrip.{GivesBack, LeavesInstance}
use Rattle.text.proofs.RoundTripLaws.{written-read-back, read-instance, read-meaning}

-- ---- read_answer, read_terms, read_rows, where nothing is too short or too long

module _ (text : List ℕ) (ts rs : List ℤ) (short : is_short ts rs ≡ false) (long : is_long text ≡ false) where
  -- The answer is what the text says.
  pub answer-said : read_answer text ts rs ≡ answer_of (read_bytes text)
  answer-said =
      ap (λ (t : Bool). cond t (Err ShortTable) (cond (is_long text) (Err LongText) (answer_of (read_bytes text)))) short
      ∙ ap (λ (t : Bool). cond t (Err LongText) (answer_of (read_bytes text))) long

module _ (text : List ℕ) (ts rs : List ℤ) (short : is_short ts rs ≡ false) (long : is_long text ≡ false) {os es : List Entry} (e : read_bytes text ≡ accepted os es) where
  answer-done : read_answer text ts rs ≡ Ok (highest (all_terms (os ++ es)))
  answer-done = answer-said text ts rs short long ∙ ap answer_of e

  neither : is_short ts rs || is_long text ≡ false
  neither = ap₂ (λ (t u : Bool). t || u) short long

  terms-done : read_terms text ts rs ≡ term_table (os ++ es) ts
  terms-done = ap (λ (t : Bool). cond t ts (term_table (entries_of (read_bytes text)) ts)) neither ∙ ap (λ (o : Outcome). term_table (entries_of o) ts) e

  rows-done : read_rows text ts rs ≡ row_table (os ++ es) rs
  rows-done = ap (λ (t : Bool). cond t rs (row_table (entries_of (read_bytes text)) rs)) neither ∙ ap (λ (o : Outcome). row_table (entries_of o) rs) e

  -- The tables that are left are an instance, and mean what the text says.
  pub done-is : IsInstance (read_terms text ts rs) (read_rows text ts rs)
  done-is = subst (λ (a : List ℤ). IsInstance a (read_rows text ts rs)) (sym terms-done) (subst (IsInstance (term_table (os ++ es) ts)) (sym rows-done) (read-instance text e ts rs))

  pub done-meaning : meaning (read_terms text ts rs) (read_rows text ts rs) ≡ instance_of os es
  done-meaning = ap₂ meaning terms-done rows-done ∙ read-meaning text e ts rs

-- ---- tables, text, tables

pub room-enough : (a b : List ℤ) → term_room ≤ length a → row_room ≤ length b → is_short a b ≡ false
room-enough a b h k = ap₂ (λ (t u : Bool). t || u) (le-ltb (length a) term_room h) (le-ltb (length b) row_room k)

module _ {ts rs : List ℤ} (i : IsInstance ts rs) where
  abbrev back : GivesBack (text_of ts rs) ts rs
  back = written-read-back ts rs i

  not-long : is_long (text_of ts rs) ≡ false
  not-long = le-ltb max_text (length (text_of ts rs)) (omega (arith, back.short))

  -- What is written of an instance is read into any tables with room: done, the same number of variables, the same rooms.
  module _ (a b : List ℤ) (terms-room : term_room ≤ length a) (rows-room : row_room ≤ length b) where
    pub written-answer : read_answer (text_of ts rs) a b ≡ Ok (meaning ts rs).variables
    written-answer = answer-done (text_of ts rs) a b (room-enough a b terms-room rows-room) not-long back.accepts ∙ ap Ok back.variables_same

    pub written-terms : take term_room (read_terms (text_of ts rs) a b) ≡ take term_room ts
    written-terms = ap (take term_room) (terms-done (text_of ts rs) a b (room-enough a b terms-room rows-room) not-long back.accepts) ∙ back.terms_anywhere a

    pub written-rows : take row_room (read_rows (text_of ts rs) a b) ≡ take row_room rs
    written-rows = ap (take row_room) (rows-done (text_of ts rs) a b (room-enough a b terms-room rows-room) not-long back.accepts) ∙ back.rows_anywhere b

  -- Read into the same tables it changes nothing.
  pub written-terms-same : read_terms (text_of ts rs) ts rs ≡ ts
  written-terms-same = terms-done (text_of ts rs) ts rs (room-enough ts rs i.terms_room i.rows_room) not-long back.accepts ∙ back.terms_same

  pub written-rows-same : read_rows (text_of ts rs) ts rs ≡ rs
  written-rows-same = rows-done (text_of ts rs) ts rs (room-enough ts rs i.terms_room i.rows_room) not-long back.accepts ∙ back.rows_same

-- ---- text, tables, text

-- a refusal is not done
done-no : (e : ReadError) {n : ℕ} → Err e ≡ Ok n → ⊥
done-no e h = omega (arith, refusal-some e, ap read_number h)

variable-number : {n m : ℕ} → ◌≡◌ {A = Result ℕ ReadError} (Ok n) (Ok m) → n ≡ m
variable-number e = cc

module _ (text : List ℕ) (ts rs : List ℤ) {n : ℕ} where
  -- Where reading answers done, the tables that it leaves are an instance, whose variables it answers.
  pub done-instance : read_answer text ts rs ≡ Ok n → LeavesInstance n (read_terms text ts rs) (read_rows text ts rs)
  done-instance h = by (is_short ts rs) (is_long text) (read_bytes text) refl refl refl h
    where
      by : (t u : Bool) (o : Outcome) → is_short ts rs ≡ t → is_long text ≡ u → read_bytes text ≡ o → cond t (Err ShortTable) (cond u (Err LongText) (answer_of o)) ≡ Ok n
          → LeavesInstance n (read_terms text ts rs) (read_rows text ts rs)
      by true u o e f g h = absurd (done-no ShortTable h)
      by false true o e f g h = absurd (done-no LongText h)
      by false false (refused k s) e f g h = absurd (done-no (refusal_of k s) h)
      by false false (accepted os es) e f g h = record {
        is = done-is text ts rs e f g;
        variables = ap (λ (i : Instance). i.variables) (done-meaning text ts rs e f g) ∙ variable-number h;
      }
