-- What the words of a statement say, once its terms are read. Assumes nothing.
use mathlib.Core.Path.{◌≡◌, refl, sym, ap, ap₂, ◌∙◌, subst}
use mathlib.Core.Bool.{Bool, true, false, cond}
use mathlib.Core.List.{List, [], ◌∷◌}
use Rattle.std.specs.Prelude.{Option, None, Some}
use Prim.Native.Nat.{ℕ, ◌≤◌}
use native.Mathlib.Omega.{arith}
use lib.Dec.{eqb}
use lib.IntN.{ℤ}
use borrow.Author.Tests.{ne_eqb, eqb-true}
use Rattle.words.specs.Tokens.{Mark, word, stop}
use Rattle.words.specs.Numbers.{number, literal, relation}
use Rattle.words.proofs.ByteLaws.{clash}
use Rattle.decimal.specs.Decimal.{is_numeral, all_digits}
use Rattle.instance.specs.Terms.{Term}
use Rattle.reading.specs.Grammar.{Words, term_of, add_term, objective, row, row_step, row_end}
use Rattle.reading.specs.Steps.{first_words, is_closed, add_terms, NoBound}

-- ---- relation

-- a relation's word is no number
relation-one : (a : ℕ) (t : Bool) → eqb a 61 ≡ t → (◌≡◌ {A = ℕ} (cond t 4 0) 0 → ⊥) → number (a ∷ []) ≡ None
unfolding is_numeral all_digits
relation-one a true e h = ap (λ (b : ℕ). number (b ∷ [])) (eqb-true a 61 e)
relation-one a false e h = absurd (h refl)

relation-two : (a b : ℕ) (t u v : Bool) → eqb b 61 ≡ t → eqb a 62 ≡ u → eqb a 60 ≡ v → (◌≡◌ {A = ℕ} (cond t (cond u 2 (cond v 3 0)) 0) 0 → ⊥) → number (a ∷ (b ∷ [])) ≡ None
unfolding is_numeral all_digits
relation-two a b true true v e f g h = ap₂ (λ (x y : ℕ). number (x ∷ (y ∷ []))) (eqb-true a 62 f) (eqb-true b 61 e)
relation-two a b true false true e f g h = ap₂ (λ (x y : ℕ). number (x ∷ (y ∷ []))) (eqb-true a 60 g) (eqb-true b 61 e)
relation-two a b true false false e f g h = absurd (h refl)
relation-two a b false u v e f g h = absurd (h refl)

pub relation-number : (w : List ℕ) → (relation w ≡ 0 → ⊥) → number w ≡ None
relation-number [] h = refl
relation-number (a ∷ []) h = relation-one a (eqb a 61) refl h
relation-number (a ∷ (b ∷ [])) h = relation-two a b (eqb b 61) (eqb a 62) (eqb a 60) refl refl refl h
relation-number (a ∷ (b ∷ (c ∷ w))) h = absurd (h refl)

pick-le : (t : Bool) (a b : ℕ) → a ≤ 4 → b ≤ 4 → cond t a b ≤ 4
pick-le true a b h k = h
pick-le false a b h k = k

pub relation-le : (w : List ℕ) → relation w ≤ 4
relation-le [] = omega arith
relation-le (a ∷ []) = pick-le (eqb a 61) 4 0 (omega arith) (omega arith)
relation-le (a ∷ (b ∷ [])) =
    pick-le (eqb b 61) (cond (eqb a 62) 2 (cond (eqb a 60) 3 0)) 0 (pick-le (eqb a 62) 2 (cond (eqb a 60) 3 0) (omega arith) (pick-le (eqb a 60) 3 0 (omega arith) (omega arith))) (omega arith)
relation-le (a ∷ (b ∷ (c ∷ w))) = omega arith

-- ---- the end of a statement

-- terms in front of an end without terms
pub adds-last : (ts : List Term) (k : ℕ) (b : ℤ) → add_terms ts (Some (record { kind = k; terms = []; bound = b })) ≡ Some (record { kind = k; terms = ts; bound = b })
unfolding add_terms
adds-last [] k b = refl
adds-last (t ∷ ts) k b = ap (add_term (Some t)) (adds-last ts k b)

pub objective-relation : (r : List ℕ) (ws : Words) → (relation r ≡ 0 → ⊥) → objective (r ∷ ws) ≡ None
unfolding objective
objective-relation r [] h = refl
objective-relation r (l ∷ ws) h = ap (λ (z : Option ℤ). add_term (term_of z (literal l)) (objective ws)) (relation-number r h)

pub row-bound : (r v : List ℕ) (ws : Words) → (relation r ≡ 0 → ⊥) → row (r ∷ (v ∷ ws)) ≡ row_end (relation r) (number v) ws
unfolding row
row-bound r v ws h = ap (λ (t : Bool). row_step t (add_term (term_of (number r) (literal v)) (row ws)) (row_end (relation r) (number v) ws)) (ne_eqb (relation r) 0 h)

end_more : (k : ℕ) (z : Option ℤ) (w : List ℕ) (ws : Words) → row_end k z (w ∷ ws) ≡ None
end_more k None w ws = refl
end_more k (Some b) w ws = refl

-- ---- NoBound

module _ {ms : List Mark} where
  -- no word at all, or a `;` at once
  pub bound-end : ms ≡ [] → NoBound ms
  unfolding is_closed
  bound-end e = subst NoBound (sym e) (λ d. clash d)

  pub bound-stop : {rest : List Mark} → ms ≡ stop ∷ rest → NoBound ms
  unfolding first_words row
  bound-stop e = subst NoBound (sym e) (λ _ r _. refl)

  module _ {v : List ℕ} {rest : List Mark} (e : ms ≡ word v ∷ rest) where
    -- a word that is no number
    pub bound-bad : number v ≡ None → NoBound ms
    unfolding first_words
    bound-bad n = subst NoBound (sym e) (λ _ r g. row-bound r v (first_words rest) g ∙ ap (λ (z : Option ℤ). row_end (relation r) z (first_words rest)) n)

    -- a word, and after it no `;`
    pub bound-open : rest ≡ [] → NoBound ms
    unfolding is_closed
    bound-open f = subst NoBound (sym (e ∙ ap (λ (l : List Mark). word v ∷ l) f)) (λ d. clash d)

    pub bound-more : {u : List ℕ} {rest' : List Mark} → rest ≡ word u ∷ rest' → NoBound ms
    unfolding first_words
    bound-more {u} {rest'} f = subst NoBound (sym (e ∙ ap (λ (l : List Mark). word v ∷ l) f)) (λ _ r g. row-bound r v (u ∷ first_words rest') g ∙ end_more (relation r) (number v) u (first_words rest'))
