-- The statements of a text, taken one by one from its marks. Assumes nothing.
use mathlib.Core.Path.{◌≡◌, refl, sym, ap, ◌∙◌}
use mathlib.Core.Bool.{Bool, true, false, not}
use mathlib.Core.List.{List, [], ◌∷◌}
use Rattle.std.specs.Prelude.{Option, None, Some}
use Prim.Native.Nat.{ℕ, suc, ◌≤◌}
use native.Mathlib.Omega.{arith}
use lib.ListN.{length}
use Rattle.words.specs.Tokens.{Mark, word, stop}
use Rattle.words.proofs.ByteLaws.{clash}
use Rattle.instance.specs.Rows.{Entry}
use Rattle.reading.specs.Grammar.{Statements, add_word, statements, statement}
use Rattle.reading.specs.Reading.{refused, verdict, is_first, go_on, add_to, take_one, finish, read_on, read_marks}
use Rattle.reading.specs.Steps.{first_words, is_closed, rest_after}

-- ---- statements

-- a closed statement is the first of them
closed-first : (ms : List Mark) → is_closed ms ≡ true → statements ms ≡ record { ended = first_words ms ∷ (statements (rest_after ms)).ended; after = (statements (rest_after ms)).after }
unfolding statements is_closed first_words rest_after
closed-first [] h = clash h
closed-first (stop ∷ ms) h = refl
closed-first (word w ∷ ms) h = ap (λ (s : Statements). add_word w s.ended s.after) (closed-first ms h)

-- without a `;` all words come after
open-all : (ms : List Mark) → is_closed ms ≡ false → statements ms ≡ record { ended = []; after = first_words ms }
unfolding statements is_closed first_words
open-all [] h = refl
open-all (stop ∷ ms) h = clash (sym h)
open-all (word w ∷ ms) h = ap (λ (s : Statements). add_word w s.ended s.after) (open-all ms h)

-- ---- read_marks

module _ (s : ℕ) (os rs : List Entry) where
  read_as : (ms : List Mark) {t : Statements} → statements ms ≡ t → read_marks s os rs ms ≡ read_on s os rs t.ended t.after
  read_as ms e = ap (λ (t : Statements). read_on s os rs t.ended t.after) e

  words_left : (ms : List Mark) → 1 ≤ length ms → is_closed ms ≡ false → finish s os rs (first_words ms) ≡ refused 3 s
  unfolding is_closed first_words
  words_left [] l h = absurd (omega arith)
  words_left (stop ∷ ms) l h = clash (sym h)
  words_left (word w ∷ ms) l h = refl

  -- a statement that says no entry, or that no `;` ends, is refused
  pub marks-broken : (ms : List Mark) → 1 ≤ length ms → (is_closed ms ≡ true → statement (first_words ms) ≡ None) → read_marks s os rs ms ≡ refused 3 s
  unfolding read_on
  marks-broken ms l h = by (is_closed ms) refl
    where
      by : (b : Bool) → is_closed ms ≡ b → read_marks s os rs ms ≡ refused 3 s
      by true e = read_as ms (closed-first ms e) ∙ ap (λ (o : Option Entry). take_one o s os rs (λ os' rs'. read_on (suc s) os' rs' (statements (rest_after ms)).ended (statements (rest_after ms)).after)) (h e)
      by false e = read_as ms (open-all ms e) ∙ words_left ms l e

  -- an entry is tried, and the next statement is read
  pub marks-entry : (ms : List Mark) (e : Entry) → is_closed ms ≡ true → statement (first_words ms) ≡ Some e
      → read_marks s os rs ms ≡ go_on (verdict os rs e) s (read_marks (suc s) (add_to (is_first e) os e) (add_to (not (is_first e)) rs e) (rest_after ms))
  unfolding read_on
  marks-entry ms e h p = read_as ms (closed-first ms h) ∙ ap (λ (o : Option Entry). take_one o s os rs (λ os' rs'. read_on (suc s) os' rs' (statements (rest_after ms)).ended (statements (rest_after ms)).after)) p

  -- nothing is left
  pub marks-none : (ms : List Mark) → ms ≡ [] → read_marks s os rs ms ≡ finish s os rs []
  unfolding read_on statements
  marks-none ms e = ap (read_marks s os rs) e
