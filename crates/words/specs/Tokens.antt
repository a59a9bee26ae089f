-- Document 01, 'Instance text': words are divided by blanks; `;` needs none before it.
use Rattle.std.specs.Prelude.{Bool, true, false, List, [], ◌∷◌, ℕ, eqb}
use Rattle.words.specs.declared.Place.{Place}
use Rattle.words.specs.Bytes.{is_blank, uncommented}

-- A word, or the `;` that ends a statement.
pub data Mark : Type 0 where
  word : List ℕ → Mark
  stop : Mark

-- The word that a text begins with, empty if it begins with a blank or a `;`, and the marks after it.
pub record Scan : Type 0 where
  pub begun : List ℕ
  pub marks : List Mark

-- An empty word is none.
abbrev pub ended : List ℕ → List Mark → List Mark
ended [] ms = ms
ended (b ∷ w) ms = word (b ∷ w) ∷ ms

-- The words and `;` of a scan, in their order.
abbrev pub shown : Scan → List Mark
shown s = ended s.begun s.marks

-- One byte in front: a blank ends the word before it, `;` does and is a mark, any other byte is part of the word.
abbrev pub put : Bool → Bool → ℕ → Scan → Scan
put true semicolon b s = record { begun = []; marks = shown s }
put false true b s = record { begun = []; marks = stop ∷ shown s }
put false false b s = record { begun = b ∷ s.begun; marks = s.marks }

unfoldable pub scan : List ℕ → Scan
scan [] = record { begun = []; marks = [] }
scan (b ∷ bs) = put (is_blank b) (eqb b 59) b (scan bs)

-- The words and `;` of a text without comments.
abbrev pub marks_of : List ℕ → List Mark
marks_of bs = shown (scan bs)

-- The words and `;` of a text, or of a part of it that begins at a place of a line.
abbrev pub marks_at : Place → List ℕ → List Mark
marks_at p bs = marks_of (uncommented p bs)
