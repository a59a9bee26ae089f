-- Laws of the grammar along the marks of a statement: a term more, and what breaks it. Assumes nothing.
use mathlib.Core.Path.{◌≡◌, refl, sym, ap, ap₂, ◌∙◌}
use mathlib.Core.List.{List, [], ◌∷◌, ◌++◌}
use Rattle.std.specs.Prelude.{Option, None, Some}
use Prim.Native.Nat.{ℕ}
use native.Mathlib.Omega.{arith}
use lib.Dec.{eqb}
use lib.IntN.{ℤ}
use Rattle.words.specs.Tokens.{Mark, word, stop}
use Rattle.words.specs.Numbers.{number, literal, relation}
use Rattle.instance.specs.Terms.{Term}
use Rattle.instance.specs.Rows.{Entry}
use Rattle.reading.specs.Grammar.{Words, term_of, add_term, objective, row, row_step, row_end}
use Rattle.reading.specs.Steps.{first_words, is_closed, rest_after, add_terms, Broken, Reached}

-- ---- add_term, add_terms

add_none : (t : Option Term) → add_term t None ≡ None
add_none None = refl
add_none (Some t) = refl

pub adds_none : (ts : List Term) → add_terms ts None ≡ None
unfolding add_terms
adds_none [] = refl
adds_none (t ∷ ts) = ap (add_term (Some t)) (adds_none ts)

pub adds-append : (ts us : List Term) (e : Option Entry) → add_terms (ts ++ us) e ≡ add_terms ts (add_terms us e)
unfolding add_terms
adds-append [] us e = refl
adds-append (t ∷ ts) us e = ap (add_term (Some t)) (adds-append ts us e)

-- ---- one word in front

first_word : (w : List ℕ) (ms : List Mark) → first_words (word w ∷ ms) ≡ w ∷ first_words ms
unfolding first_words
first_word w ms = refl

-- a coefficient word and a literal word in front
objective-two : (c l : List ℕ) (ws : Words) → objective (c ∷ (l ∷ ws)) ≡ add_term (term_of (number c) (literal l)) (objective ws)
unfolding objective
objective-two c l ws = refl

row-two : (c l : List ℕ) (ws : Words) → relation c ≡ 0 → row (c ∷ (l ∷ ws)) ≡ add_term (term_of (number c) (literal l)) (row ws)
unfolding row
row-two c l ws h = ap (λ (k : ℕ). row_step (eqb k 0) (add_term (term_of (number c) (literal l)) (row ws)) (row_end (relation c) (number l) ws)) h

-- ---- Broken

-- where the first two words are no term, nothing goes on so
broken-two : (c l : List ℕ) (ms : List Mark) → relation c ≡ 0 → term_of (number c) (literal l) ≡ None → Broken (word c ∷ (word l ∷ ms))
unfolding first_words
broken-two c l ms h e = record {
  objective_none = objective-two c l (first_words ms) ∙ ap (λ (t : Option Term). add_term t (objective (first_words ms))) e;
  row_none = row-two c l (first_words ms) h ∙ ap (λ (t : Option Term). add_term t (row (first_words ms))) e;
  more = omega arith;
}

pub broken-one : (c : List ℕ) → Broken (word c ∷ [])
unfolding first_words objective row
broken-one c = record { objective_none = refl; row_none = refl; more = omega arith }

pub broken-stop : (c : List ℕ) (ms : List Mark) → Broken (word c ∷ (stop ∷ ms))
unfolding first_words objective row
broken-stop c ms = record { objective_none = refl; row_none = refl; more = omega arith }

no-coef : (l : Option ℤ) {c : Option ℤ} → c ≡ None → term_of c l ≡ None
no-coef l e = ap (λ (z : Option ℤ). term_of z l) e

no_lit : (c : Option ℤ) {l : Option ℤ} → l ≡ None → term_of c l ≡ None
no_lit None e = refl
no_lit (Some c) e = ap (term_of (Some c)) e

pub broken-coef : (c : List ℕ) (ms : List Mark) → relation c ≡ 0 → number c ≡ None → Broken (word c ∷ ms)
broken-coef c [] h e = broken-one c
broken-coef c (stop ∷ ms) h e = broken-stop c ms
broken-coef c (word l ∷ ms) h e = broken-two c l ms h (no-coef (literal l) e)

pub broken-lit : (c l : List ℕ) (ms : List Mark) → relation c ≡ 0 → literal l ≡ None → Broken (word c ∷ (word l ∷ ms))
broken-lit c l ms h e = broken-two c l ms h (no_lit (number c) e)

-- ---- Reached

pub reached-none : (ms : List Mark) → Reached [] ms ms
unfolding add_terms
reached-none ms = record { objective_as = refl; row_as = refl; closed_as = refl; rest_as = refl; more = λ h. h }

pub reached-term : (c l : List ℕ) (ms : List Mark) (z y : ℤ) → relation c ≡ 0 → number c ≡ Some z → literal l ≡ Some y → Reached (record { coef = z; lit = y } ∷ []) (word c ∷ (word l ∷ ms)) ms
unfolding first_words is_closed rest_after add_terms
reached-term c l ms z y h e f = record {
  objective_as = objective-two c l (first_words ms) ∙ ap (λ (t : Option Term). add_term t (objective (first_words ms))) (ap₂ term_of e f);
  row_as = row-two c l (first_words ms) h ∙ ap (λ (t : Option Term). add_term t (row (first_words ms))) (ap₂ term_of e f);
  closed_as = refl;
  rest_as = refl;
  more = λ _. omega arith;
}

pub reached_then : (ts us : List Term) {a b c : List Mark} → Reached ts a b → Reached us b c → Reached (ts ++ us) a c
reached_then ts us {a} {b} {c} p q = record {
  objective_as = p.objective_as ∙ ap (add_terms ts) q.objective_as ∙ sym (adds-append ts us (objective (first_words c)));
  row_as = p.row_as ∙ ap (add_terms ts) q.row_as ∙ sym (adds-append ts us (row (first_words c)));
  closed_as = p.closed_as ∙ q.closed_as;
  rest_as = p.rest_as ∙ q.rest_as;
  more = λ h. p.more (q.more h);
}

pub broken-back : (ts : List Term) {a b : List Mark} → Reached ts a b → Broken b → Broken a
broken-back ts p h = record {
  objective_none = p.objective_as ∙ ap (add_terms ts) h.objective_none ∙ adds_none ts;
  row_none = p.row_as ∙ ap (add_terms ts) h.row_none ∙ adds_none ts;
  more = p.more h.more;
}
