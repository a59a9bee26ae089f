-- Document 01, 'Refusal numbers' and 'Orders': what reading a text answers, and what it leaves in both tables.
use Rattle.std.specs.Prelude.{Bool, cond, ◌||◌, List, [], ◌++◌, ℕ, eqb, ltb, ℤ, length, Result, Ok, Err}
use Rattle.instance.specs.Limits.{term_room, row_room}
use Rattle.instance.specs.Terms.{highest}
use Rattle.instance.specs.Rows.{Entry}
use Rattle.instance.specs.Layout.{all_terms, term_table, row_table}
use Rattle.refusals.specs.Numbers.{number_of, value_of}
use Rattle.reading.specs.declared.errors.ReadError.{ReadError}
use Rattle.reading.specs.declared.errors.ReadError.TheVariants.{ShortTable, LongText, Grammar, LateObjective, TooMany, OutOfRange, NoVariable, TooManyTerms, NoObjective}
use Rattle.reading.specs.Refusals.{refusal_number, refusal_value}
use Rattle.reading.specs.Limits.{max_text}
use Rattle.reading.specs.Reading.{Outcome, accepted, refused, read_bytes}

-- The number of each answer: 0 for done.
abbrev pub read_number : Result ℕ ReadError → ℕ
read_number r = number_of refusal_number r

-- The value of each answer: n, or the statement's number, or 0.
abbrev pub read_value : Result ℕ ReadError → ℕ
read_value r = value_of (λ n. n) refusal_value r

-- The refusal of a number from 3 to 9, at a statement.
abbrev pub refusal_of : ℕ → ℕ → ReadError
refusal_of k s =
    cond (eqb k 3) (Grammar s)
    (cond (eqb k 4) (LateObjective s)
    (cond (eqb k 5) (TooMany s)
    (cond (eqb k 6) (OutOfRange s)
    (cond (eqb k 7) (NoVariable s)
    (cond (eqb k 8) (TooManyTerms s) NoObjective)))))

-- What a text says, as an answer: n is the highest variable named in any term.
abbrev pub answer_of : Outcome → Result ℕ ReadError
answer_of (accepted os rs) = Ok (highest (all_terms (os ++ rs)))
answer_of (refused k s) = Err (refusal_of k s)

-- The entries that the tables are to hold: on a refusal none.
abbrev pub entries_of : Outcome → List Entry
entries_of (accepted os rs) = os ++ rs
entries_of (refused k s) = []

-- A lent table is too short for reading text.
abbrev pub is_short : List ℤ → List ℤ → Bool
is_short ts rs = ltb (length ts) term_room || ltb (length rs) row_room

-- A text is too long.
abbrev pub is_long : List ℕ → Bool
is_long text = ltb max_text (length text)

-- What reading answers.
abbrev pub read_answer : List ℕ → List ℤ → List ℤ → Result ℕ ReadError
read_answer text ts rs = cond (is_short ts rs) (Err ShortTable) (cond (is_long text) (Err LongText) (answer_of (read_bytes text)))

-- What it leaves in the term table: all as found on refusals 1 and 2; else the entries' terms, zeros to the room's end, all beyond as found.
abbrev pub read_terms : List ℕ → List ℤ → List ℤ → List ℤ
read_terms text ts rs = cond (is_short ts rs || is_long text) ts (term_table (entries_of (read_bytes text)) ts)

-- What it leaves in the row table, likewise.
abbrev pub read_rows : List ℕ → List ℤ → List ℤ → List ℤ
read_rows text ts rs = cond (is_short ts rs || is_long text) rs (row_table (entries_of (read_bytes text)) rs)
