-- What the loop over the statements answers, before the tables are cleared on a refusal.
use Rattle.std.specs.Prelude.{◌≡◌, Bool, cond, ◌&&◌, List, ◌++◌, ℕ, ◌+◌, ◌-◌, max, eqb, ltb, leb, ℤ, drop, Result, Ok, Err}
use Rattle.instance.specs.Limits.{max_objectives, max_rows, max_terms, term_room, row_room}
use Rattle.instance.specs.Rows.{Entry}
use Rattle.instance.specs.Layout.{term_table, row_table}
use Rattle.instance.specs.Kinds.{number_of}
use Rattle.reading.specs.declared.statements.Statement.{Statement}
use Rattle.reading.specs.declared.verdicts.Taken.{Taken}
use Rattle.reading.specs.declared.errors.ReadError.{ReadError}
use Rattle.reading.specs.Reading.{accepted, read_bytes}
use Rattle.reading.specs.Answers.{refusal_of, answer_of}

-- An objective after a row.
abbrev pub late_by : ℕ → ℕ → Bool
late_by kind rows = eqb kind 1 && ltb 0 rows

-- Fifth objective or 257th row.
abbrev pub full_by : ℕ → ℕ → ℕ → Bool
full_by kind objectives rows = cond (eqb kind 1) (leb max_objectives objectives) (leb max_rows rows)

-- The refusal number of an entry by what is known of it, 4 to 8 in turn, or 0.
abbrev pub verdict_by : Bool → Bool → Bool → Bool → ℕ → ℕ
verdict_by late full wide unnamed terms = cond late 4 (cond full 5 (cond wide 6 (cond unnamed 7 (cond (ltb max_terms terms) 8 0))))

-- What was taken, with statement s more.
pub record OneMore (t : Taken) (s : Statement) (t' : Taken) : Type 0 where
  pub objectives : t'.objectives ≡ t.objectives + cond (eqb (number_of s.kind) 1) 1 0
  pub rows : t'.rows ≡ t.rows + (1 - cond (eqb (number_of s.kind) 1) 1 0)
  pub terms : t'.terms ≡ t.terms + s.count
  pub top : t'.top ≡ max t.top s.top

-- No refusal; or the one of number v, at statement s.
abbrev pub VerdictIs : ℕ → ℕ → Result (Unit {0}) ReadError → Type 0
VerdictIs v s (Ok u) = v ≡ 0
VerdictIs v s (Err e) = (v ≡ 0 → ⊥) × (e ≡ refusal_of v s)

-- The answer is that of what the text says. Where all statements were taken the tables hold their entries; beyond the rooms all is as found.
pub record ReadIs (text : List ℕ) (before after rows rows' : List ℤ) (r : Result ℕ ReadError) : Type 0 where
  pub answer : r ≡ answer_of (read_bytes text)
  pub terms_kept : drop term_room after ≡ drop term_room before
  pub rows_kept : drop row_room rows' ≡ drop row_room rows
  pub terms_left : (os rs : List Entry) → read_bytes text ≡ accepted os rs → after ≡ term_table (os ++ rs) before
  pub rows_left : (os rs : List Entry) → read_bytes text ≡ accepted os rs → rows' ≡ row_table (os ++ rs) rows
