-- What the first marks tell of the statement that they stand in. Assumes nothing.
use mathlib.Core.Path.{◌≡◌, sym, subst}
use mathlib.Core.List.{List, [], ◌∷◌}
use Prim.Native.Nat.{ℕ}
use Rattle.std.specs.Prelude.{None}
use Rattle.words.specs.Tokens.{Mark, word, stop}
use Rattle.words.specs.Numbers.{number, literal, relation}
use Rattle.reading.specs.Steps.{Broken, IsStop}
use Rattle.reading.proofs.ParseLaws.{broken-one, broken-stop, broken-coef, broken-lit}

module _ {ms : List Mark} where
  -- no word follows a coefficient
  pub second-none : ms ≡ [] → (c : List ℕ) → Broken (word c ∷ ms)
  second-none e c = subst (λ (l : List Mark). Broken (word c ∷ l)) (sym e) (broken-one c)

  pub second-stop : {rest : List Mark} → ms ≡ stop ∷ rest → (c : List ℕ) → Broken (word c ∷ ms)
  second-stop {rest} e c = subst (λ (l : List Mark). Broken (word c ∷ l)) (sym e) (broken-stop c rest)

  -- a word that is no literal follows
  pub second-bad : {w : List ℕ} {rest : List Mark} → ms ≡ word w ∷ rest → literal w ≡ None → (c : List ℕ) → relation c ≡ 0 → Broken (word c ∷ ms)
  second-bad {w} {rest} e l c r = subst (λ (x : List Mark). Broken (word c ∷ x)) (sym e) (broken-lit c w rest r l)

  -- a word that is neither a relation nor a number
  pub first-bad : {w : List ℕ} {rest : List Mark} → ms ≡ word w ∷ rest → relation w ≡ 0 → number w ≡ None → Broken ms
  first-bad {w} {rest} e r n = subst Broken (sym e) (broken-coef w rest r n)

  -- a word that is a relation, a `;`, nothing
  pub stops-word : {w : List ℕ} {rest : List Mark} → ms ≡ word w ∷ rest → (relation w ≡ 0 → ⊥) → IsStop ms
  stops-word e r = subst IsStop (sym e) r

  pub stops-stop : {rest : List Mark} → ms ≡ stop ∷ rest → IsStop ms
  stops-stop e = subst IsStop (sym e) tt

  pub stops-end : ms ≡ [] → IsStop ms
  stops-end e = subst IsStop (sym e) tt

  -- the word at which a run stops is a relation
  pub stopped : {w : List ℕ} {rest : List Mark} → ms ≡ word w ∷ rest → IsStop ms → relation w ≡ 0 → ⊥
  stopped e s = subst IsStop e s
