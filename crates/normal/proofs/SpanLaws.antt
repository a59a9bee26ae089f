-- The left side of a half row that is laid out is what its terms give. Assumes nothing.
use mathlib.Core.Path.{◌≡◌, refl, sym, ap, ap₂, ◌∙◌}
use mathlib.Core.Bool.{Bool, true, false, cond}
use mathlib.Core.List.{List, [], ◌∷◌, ◌++◌, append_assoc}
use Prim.Native.Nat.{ℕ, zero, suc, ◌+◌, ◌-◌, ◌<◌}
use native.Mathlib.Omega.{arith}
use native.Mathlib.Numerals.{add-one}
use lib.Dec.{eqb}
use lib.ListN.{length, get_or, length-append, length-map}
use lib.Seq.{get_or_at}
use Rattle.charging.specs.declared.rows.Term.{Term}
use Rattle.charging.specs.Rows.{pick, miss, span, no_term, term, bit}
use Rattle.charging.proofs.BitLaws.{bit_word}
use Rattle.normal.specs.declared.Half.{Half}
use Rattle.normal.specs.Halves.{bit_of, gives, gives_all}
use Rattle.normal.specs.Rows.{HalfRow, terms_of, all_halves, starts_from}
use Rattle.normal.proofs.LaidLaws.{map-append}

-- ---- term

-- an element of the terms, by what stands before it
term_at : (p : List Half) (h : Half) (r : List Half) → get_or (terms_of (p ++ (h ∷ r))) (length p) no_term ≡ h.term
term_at p h r =
    ap (λ (l : List Term). get_or l (length p) no_term) (map-append (λ (x : Half). x.term) p (h ∷ r))
    ∙ get_or_at (terms_of p) h.term (terms_of r) no_term (length p) (length-map p (λ x. x.term))

pick-cond : (b : Bool) (x y : ℕ) → pick b x y ≡ cond b x y
pick-cond true x y = refl
pick-cond false x y = refl

term-gives : (a : ℕ) (p : List Half) (h : Half) (r : List Half) → term (terms_of (p ++ (h ∷ r))) (bit a) (length p) ≡ gives h a
unfolding miss
term-gives a p h r =
    ap (λ (t : Term). miss (bit a t.variable) t.off t.weight) (term_at p h r)
    ∙ ap (λ (b : ℕ). miss b h.term.off h.term.weight) (bit_word a h.term.variable)
    ∙ pick-cond (eqb (bit_of a h.term.variable) h.term.off) 0 h.term.weight

-- ---- span

span-front : (f : ℕ → ℕ) (a n : ℕ) → span f a (suc n) ≡ f a + span f (suc a) n
unfolding span
span-front f a zero = sums
  where
    here : a + 0 ≡ a
    here = omega arith

    sums : 0 + f (a + 0) ≡ f a + 0
    sums = omega (arith, ap f here)
span-front f a (suc n) = omega (arith, span-front f a n, ap f next)
  where
    next : a + suc n ≡ suc a + n
    next = omega arith

-- the terms of some halves, wherever they stand, give what they give
span-gives : (a : ℕ) (hs p r : List Half) → span (term (terms_of (p ++ (hs ++ r))) (bit a)) (length p) (length hs) ≡ gives_all hs a
unfolding span gives_all
span-gives a [] p r = refl
span-gives a (h ∷ hs) p r =
    span-front (term (terms_of (p ++ (h ∷ (hs ++ r)))) (bit a)) (length p) (length hs)
    ∙ ap₂ ◌+◌ (term-gives a p h (hs ++ r)) (moved ∙ span-gives a hs (p ++ (h ∷ [])) r)
  where
    all : p ++ (h ∷ (hs ++ r)) ≡ (p ++ (h ∷ [])) ++ (hs ++ r)
    all = sym (append_assoc p (h ∷ []) (hs ++ r))

    here : suc (length p) ≡ length (p ++ (h ∷ []))
    here = sym (length-append p (h ∷ []) ∙ add-one (length p))

    moved : span (term (terms_of (p ++ (h ∷ (hs ++ r)))) (bit a)) (suc (length p)) (length hs)
        ≡ span (term (terms_of ((p ++ (h ∷ [])) ++ (hs ++ r))) (bit a)) (length (p ++ (h ∷ []))) (length hs)
    moved = ap₂ (λ (l : List Half) (k : ℕ). span (term (terms_of l) (bit a)) k (length hs)) all here

-- ---- left

-- a half row by its place; none beyond
abbrev pub row_at : List HalfRow → ℕ → HalfRow
row_at hs k = get_or hs k (record { terms = []; need = 0 })

pub starts-head : (first : ℕ) (hs : List HalfRow) → get_or (starts_from first hs) 0 0 ≡ first
unfolding starts_from
starts-head first [] = refl
starts-head first (r ∷ rs) = refl

-- the left side of a half row, by the places of its terms among all
abbrev pub left_at : List ℕ → List Term → (ℕ → ℕ) → ℕ → ℕ
left_at starts terms y k = span (term terms y) (get_or starts k 0) (get_or starts (k + 1) 0 - get_or starts k 0)

-- is what its terms give
pub left-gives : (a : ℕ) (hs : List HalfRow) (p : List Half) (k : ℕ) → k < length hs
    → left_at (starts_from (length p) hs) (terms_of (p ++ all_halves hs)) (bit a) k ≡ gives_all (row_at hs k).terms a
unfolding starts_from all_halves
left-gives a [] p k h = absurd (omega arith)
left-gives a (r ∷ rs) p zero h =
    ap (λ (n : ℕ). span (term (terms_of (p ++ (r.terms ++ all_halves rs))) (bit a)) (length p) n) size
    ∙ span-gives a r.terms p (all_halves rs)
  where
    size : get_or (starts_from (length p + length r.terms) rs) 0 0 - length p ≡ length r.terms
    size = omega (arith, starts-head (length p + length r.terms) rs)
left-gives a (r ∷ rs) p (suc k) h =
    ap (λ (n : ℕ). span (term (terms_of (p ++ (r.terms ++ all_halves rs))) (bit a)) (get_or (starts_from (length p + length r.terms) rs) k 0) (get_or (length p ∷ starts_from (length p + length r.terms) rs) n 0 - get_or (starts_from (length p + length r.terms) rs) k 0)) up
    ∙ ap₂ (λ (l : List Half) (f : ℕ). left_at (starts_from f rs) (terms_of l) (bit a) k) (sym (append_assoc p r.terms (all_halves rs))) (sym (length-append p r.terms))
    ∙ left-gives a rs (p ++ r.terms) k (omega arith)
  where
    up : suc k + 1 ≡ suc (k + 1)
    up = omega arith
