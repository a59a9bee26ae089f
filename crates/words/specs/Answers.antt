-- What the answers of this crate's functions mean.
use Rattle.std.specs.Prelude.{◌≡◌, true, false, List, [], ◌∷◌, ℕ, ◌≤◌, ◌<◌, length, get_or, Option, Some, None}
use Rattle.instance.specs.declared.kinds.Kind.{Kind}
use Rattle.instance.specs.Kinds.{number_of}
use Rattle.words.specs.declared.Place.{Place}
use Rattle.words.specs.declared.Place.TheVariants.{Inside}
use Rattle.words.specs.declared.tokens.Token.{Token}
use Rattle.words.specs.declared.tokens.Token.TheVariants.{Word, Stop}
use Rattle.words.specs.declared.tokens.Next.{Next}
use Rattle.words.specs.Bytes.{is_blank, is_plain}
use Rattle.words.specs.Numbers.{relation}
use Rattle.words.specs.Tokens.{Mark, word, stop, marks_at}

-- r has the marks that a text has at a place, and does not begin with a blank.
pub record Skipped (text : List ℕ) (p : Place) (r : List ℕ) : Type 0 where
  pub few : length r ≤ length text
  pub same : marks_at p text ≡ marks_at Inside r
  pub found : 0 < length r → is_blank (get_or r 0 0) ≡ false

-- r is the first place of a text whose byte is no part of a word, or its end.
pub record WordEnd (text : List ℕ) (r : ℕ) : Type 0 where
  pub high : r ≤ length text
  pub plain : (k : ℕ) → k < r → is_plain (get_or text k 0) ≡ true
  pub found : r < length text → is_plain (get_or text r 0) ≡ false

-- The mark that a token is.
abbrev pub mark_of : Token → Mark
mark_of (Word w) = word w.now
mark_of Stop = stop

-- A text has no marks; or it has the token's, then those of the rest.
abbrev pub NextToken : List ℕ → Place → Option Next → Type 0
NextToken text p None = marks_at p text ≡ []
NextToken text p (Some n) = (marks_at p text ≡ mark_of n.token ∷ marks_at Inside n.rest.now) × (length n.rest.now < length text)

-- A word is no relation; or it stands for a kind of row.
abbrev pub RelationIs : List ℕ → Option Kind → Type 0
RelationIs w None = relation w ≡ 0
RelationIs w (Some k) = (number_of k ≡ relation w) × (relation w ≡ 0 → ⊥)
