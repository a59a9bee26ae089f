-- Document 01, 'Instance text': blanks, comment lines, and where a byte stands in its line.
use Rattle.std.specs.Prelude.{Bool, true, false, not, cond, ◌||◌, ◌&&◌, List, [], ◌∷◌, ℕ, eqb}
use Rattle.words.specs.declared.Place.{Place}
use Rattle.words.specs.declared.Place.TheVariants.{Inside, Start, Comment}

-- Blank bytes are space, tab, CR, LF.
abbrev pub is_blank : ℕ → Bool
is_blank b = eqb b 32 || (eqb b 9 || (eqb b 13 || eqb b 10))

-- Any byte but a blank and `;` is part of a word.
abbrev pub is_plain : ℕ → Bool
is_plain b = not (is_blank b || eqb b 59)

-- A line ends with LF: what follows it is the first byte of a line.
abbrev pub place_after : ℕ → Place
place_after b = cond (eqb b 10) Start Inside

-- A line whose first byte is `*` is a comment, up to its line end.
abbrev pub next_place : Place → ℕ → Place
next_place Inside b = place_after b
next_place Start b = cond (eqb b 42) Comment (place_after b)
next_place Comment b = cond (eqb b 10) Start Comment

-- A byte is kept if it is no part of a comment.
abbrev pub is_kept : Place → ℕ → Bool
is_kept Inside b = true
is_kept Start b = not (eqb b 42)
is_kept Comment b = false

-- A byte that is kept and is no blank begins a word or is a `;`.
abbrev pub begins : Place → ℕ → Bool
begins p b = not (is_blank b) && is_kept p b

-- The byte in front, if it is kept.
abbrev pub keep : Bool → ℕ → List ℕ → List ℕ
keep true b bs = b ∷ bs
keep false b bs = bs

-- The text with its comments taken out, each with its line end.
unfoldable pub uncommented : Place → List ℕ → List ℕ
uncommented p [] = []
uncommented p (b ∷ bs) = keep (is_kept p b) b (uncommented (next_place p b) bs)
