-- What a token tells of the marks of the text that it stands in, by what it is. Assumes nothing.
use mathlib.Core.Path.{◌≡◌, ap, ◌∙◌, subst}
use mathlib.Core.List.{List, [], ◌∷◌}
use Prim.Native.Nat.{ℕ, ◌<◌}
use lib.ListN.{length}
use Rattle.std.specs.Prelude.{Option, Some, None}
use denote.Bor.{Bor}
use Rattle.words.specs.declared.Place.{Place}
use Rattle.words.specs.declared.Place.TheVariants.{Inside}
use Rattle.words.specs.declared.tokens.Next.{Next}
use Rattle.words.specs.declared.tokens.Token.{Token}
use Rattle.words.specs.declared.tokens.Token.TheVariants.{Word, Stop}
use Rattle.words.specs.Tokens.{Mark, word, stop, marks_at}
use Rattle.words.specs.Answers.{mark_of, NextToken}

-- by whether there is one
module _ (text : List ℕ) (p : Place) {o : Option Next} (t : NextToken text p o) where
  pub token-none : o ≡ None → marks_at p text ≡ []
  token-none e = subst (NextToken text p) e t

  pub token-some : {n : Next} → o ≡ Some n → (marks_at p text ≡ mark_of n.token ∷ marks_at Inside n.rest.now) × (length n.rest.now < length text)
  token-some e = subst (NextToken text p) e t

-- by what it is
module _ {ms rest : List Mark} {t : Token} (e : ms ≡ mark_of t ∷ rest) where
  pub token-word : {w : Bor (List ℕ)} → t ≡ Word w → ms ≡ word w.now ∷ rest
  token-word k = e ∙ ap (λ (u : Token). mark_of u ∷ rest) k

  pub token-stop : t ≡ Stop → ms ≡ stop ∷ rest
  token-stop k = e ∙ ap (λ (u : Token). mark_of u ∷ rest) k
