-- What the reader's parts answer: a term, a run of terms, a statement. A part of a text is known by its marks.
use Rattle.std.specs.Prelude.{◌≡◌, Bool, true, false, ◌||◌, List, [], ◌∷◌, ℕ, ◌+◌, ◌≤◌, ◌<◌, max, ltb, ℤ, nat_abs, length, drop, Option, Some, None, Result, Ok, Err}
use Rattle.words.specs.declared.Place.TheVariants.{Inside}
use Rattle.words.specs.Tokens.{Mark, word, stop, marks_at}
use Rattle.words.specs.Numbers.{number, literal, relation}
use Rattle.words.specs.Answers.{NextToken}
use Rattle.instance.specs.Limits.{max_bound, term_room}
use Rattle.instance.specs.Kinds.{number_of}
use Rattle.instance.specs.Terms.{Term, highest}
use Rattle.instance.specs.Rows.{Entry}
use Rattle.reading.specs.declared.terms.Malformed.{Malformed}
use Rattle.reading.specs.declared.terms.Literal.{Literal}
use Rattle.reading.specs.declared.terms.TermRead.{TermRead}
use Rattle.reading.specs.declared.terms.Step.{Step}
use Rattle.reading.specs.declared.terms.Step.TheVariants.{Term as TermStep, Stop as StopStep}
use Rattle.reading.specs.declared.terms.Run.{Run}
use Rattle.reading.specs.declared.terms.TermsRead.{TermsRead}
use Rattle.reading.specs.declared.statements.Bound.{Bound}
use Rattle.reading.specs.declared.statements.Statement.{Statement}
use Rattle.reading.specs.Grammar.{Words, add_term, objective, row, statement}
use Rattle.reading.specs.Reading.{any, is_wide, is_unnamed}
use Rattle.reading.specs.Stored.{term_of, stored}

-- The words of the first statement, whether a `;` ends it, and the marks after that.
unfoldable pub first_words : List Mark → Words
first_words [] = []
first_words (stop ∷ ms) = []
first_words (word w ∷ ms) = w ∷ first_words ms

unfoldable pub is_closed : List Mark → Bool
is_closed [] = false
is_closed (stop ∷ ms) = true
is_closed (word w ∷ ms) = is_closed ms

unfoldable pub rest_after : List Mark → List Mark
rest_after [] = []
rest_after (stop ∷ ms) = ms
rest_after (word w ∷ ms) = rest_after ms

-- Terms in front of an objective's or a row's.
unfoldable pub add_terms : List Term → Option Entry → Option Entry
add_terms [] e = e
add_terms (t ∷ ts) e = add_term (Some t) (add_terms ts e)

-- No words that go on so are an objective's terms or a row.
pub record Broken (ms : List Mark) : Type 0 where
  pub objective_none : objective (first_words ms) ≡ None
  pub row_none : row (first_words ms) ≡ None
  pub more : 1 ≤ length ms

-- From ms the terms lead to ms' in the same statement.
pub record Reached (ts : List Term) (ms ms' : List Mark) : Type 0 where
  pub objective_as : objective (first_words ms) ≡ add_terms ts (objective (first_words ms'))
  pub row_as : row (first_words ms) ≡ add_terms ts (row (first_words ms'))
  pub closed_as : is_closed ms ≡ is_closed ms'
  pub rest_as : rest_after ms ≡ rest_after ms'
  pub more : 1 ≤ length ms' → 1 ≤ length ms

-- No term begins at the marks: a `;` stands there, a relation, or nothing.
abbrev pub IsStop : List Mark → Type 0
IsStop [] = Unit {0}
IsStop (stop ∷ ms) = Unit {0}
IsStop (word w ∷ ms) = relation w ≡ 0 → ⊥

-- A literal's word stands first in a text.
pub record IsLiteral (text : List ℕ) (s : Literal) : Type 0 where
  pub lit_word : List ℕ
  pub marks : marks_at Inside text ≡ word lit_word ∷ marks_at Inside s.rest.now
  pub lit_is : literal lit_word ≡ Some s.lit
  pub fewer : length s.rest.now < length text

-- After a coefficient's word: a literal's word, or what makes no term of them.
abbrev pub SecondIs : List ℕ → Option Literal → Type 0
SecondIs text None = (c : List ℕ) → relation c ≡ 0 → Broken (word c ∷ marks_at Inside text)
SecondIs text (Some s) = IsLiteral text s

-- A coefficient's word and a literal's word stand first in a text.
pub record IsTerm (text : List ℕ) (t : TermRead) : Type 0 where
  pub coef_word : List ℕ
  pub lit_word : List ℕ
  pub marks : marks_at Inside text ≡ word coef_word ∷ (word lit_word ∷ marks_at Inside t.rest.now)
  pub plain : relation coef_word ≡ 0
  pub coef_is : number coef_word ≡ Some t.coef
  pub lit_is : literal lit_word ≡ Some t.lit
  pub fewer : length t.rest.now < length text

-- What stands where a term could begin: a term, the token at which none begins, or what breaks the grammar.
abbrev pub StepIs : List ℕ → Result Step Malformed → Type 0
StepIs text (Ok (StopStep o)) = NextToken text Inside o × IsStop (marks_at Inside text)
StepIs text (Ok (TermStep t)) = IsTerm text t
StepIs text (Err e) = Broken (marks_at Inside text)

-- r' is the run r with the term t more.
pub record Longer (r : Run) (t : TermRead) (r' : Run) : Type 0 where
  pub count : r'.count ≡ r.count + 1
  pub wide : r'.wide ≡ r.wide || is_wide (term_of t.coef t.lit)
  pub unnamed : r'.unnamed ≡ r.unnamed || is_unnamed (term_of t.coef t.lit)
  pub top : r'.top ≡ max r.top (nat_abs t.lit)
  pub rest : r'.rest.now ≡ t.rest.now

-- The terms that stand first in a text, stored from place base on; r says what they are.
pub record RunIs (text : List ℕ) (base : ℕ) (before after : List ℤ) (r : Run) : Type 0 where
  pub terms : List Term
  pub reached : Reached terms (marks_at Inside text) (marks_at Inside r.rest.now)
  pub few : r.count + length r.rest.now ≤ length text
  pub count : r.count ≡ length terms
  pub wide : r.wide ≡ any is_wide terms
  pub unnamed : r.unnamed ≡ any is_unnamed terms
  pub top : r.top ≡ highest terms
  pub left : after ≡ stored before base terms

-- Beyond the room all is as found.
abbrev pub Kept : List ℤ → List ℤ → Type 0
Kept before after = drop term_room after ≡ drop term_room before

-- A run of terms up to where none begins, and the token that stands there.
pub record RunStops (text : List ℕ) (base : ℕ) (before after : List ℤ) (r : TermsRead) : Type 0 where
  pub run : RunIs text base before after r.run
  pub next : NextToken r.run.rest.now Inside r.stop
  pub stop : IsStop (marks_at Inside r.run.rest.now)

-- The same, or what breaks the grammar.
abbrev pub RunEnds : List ℕ → ℕ → List ℤ → List ℤ → Result TermsRead Malformed → Type 0
RunEnds text base before after (Ok r) = RunStops text base before after r
RunEnds text base before after (Err e) = Broken (marks_at Inside text)

pub record RunEnd (text : List ℕ) (base : ℕ) (before after : List ℤ) (r : Result TermsRead Malformed) : Type 0 where
  pub kept : Kept before after
  pub run : RunEnds text base before after r

-- A bound's word and a `;` stand first in a text.
pub record IsBound (text : List ℕ) (b : Bound) : Type 0 where
  pub bound_word : List ℕ
  pub marks : marks_at Inside text ≡ word bound_word ∷ (stop ∷ marks_at Inside b.rest.now)
  pub says : number bound_word ≡ Some b.value
  pub fewer : length b.rest.now < length text

-- After a relation the marks are no bound and `;`: no row that a `;` ends goes on so.
abbrev pub NoBound : List Mark → Type 0
NoBound ms = is_closed ms ≡ true → (r : List ℕ) → (relation r ≡ 0 → ⊥) → row (r ∷ first_words ms) ≡ None

abbrev pub BoundIs : List ℕ → Option Bound → Type 0
BoundIs text None = NoBound (marks_at Inside text)
BoundIs text (Some b) = IsBound text b

-- The entry that the words of a closed statement say, and what is known of it. `parse` reads the words; `size` bytes were left to read.
pub record EntryRead (parse : Words → Option Entry) (ms : List Mark) (size base : ℕ) (before after : List ℤ) (s : Statement) : Type 0 where
  pub entry : Entry
  pub parsed : parse (first_words ms) ≡ Some entry
  pub closed : is_closed ms ≡ true
  pub rest : rest_after ms ≡ marks_at Inside s.rest.now
  pub kind : number_of s.kind ≡ entry.kind
  pub kind_most : number_of s.kind ≤ 4
  pub count : s.count ≡ length entry.terms
  pub few : s.count + length s.rest.now < size
  pub bound : s.bound ≡ entry.bound
  pub wide : s.wide ≡ any is_wide entry.terms || ltb max_bound (nat_abs entry.bound)
  pub unnamed : s.unnamed ≡ any is_unnamed entry.terms
  pub top : s.top ≡ highest entry.terms
  pub left : after ≡ stored before base entry.terms

-- What the words of a statement say: an entry, or what breaks the grammar if a `;` ends it.
abbrev pub Closes : (Words → Option Entry) → List Mark → ℕ → ℕ → List ℤ → List ℤ → Result Statement Malformed → Type 0
Closes parse ms size base before after (Ok s) = EntryRead parse ms size base before after s
Closes parse ms size base before after (Err e) = is_closed ms ≡ true → parse (first_words ms) ≡ None

pub record Closing (parse : Words → Option Entry) (ms : List Mark) (size base : ℕ) (before after : List ℤ) (r : Result Statement Malformed) : Type 0 where
  pub kept : Kept before after
  pub closes : Closes parse ms size base before after r

-- What the marks ms of a part of a text begin with: nothing, or a statement.
abbrev pub Begins : List Mark → ℕ → ℕ → List ℤ → List ℤ → Result (Option Statement) Malformed → Type 0
Begins ms size base before after (Ok None) = (ms ≡ []) × (after ≡ before)
Begins ms size base before after (Ok (Some s)) = EntryRead statement ms size base before after s
Begins ms size base before after (Err e) = (1 ≤ length ms) × (is_closed ms ≡ true → statement (first_words ms) ≡ None)

pub record StatementIs (ms : List Mark) (size base : ℕ) (before after : List ℤ) (r : Result (Option Statement) Malformed) : Type 0 where
  pub kept : Kept before after
  pub begins : Begins ms size base before after r
