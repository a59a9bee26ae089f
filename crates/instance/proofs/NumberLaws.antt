-- Laws of the tables' numbers of given entries: of entries that come after others, and how many numbers there are.
use mathlib.Core.Path.{◌≡◌, refl, sym, ap, ◌∙◌, subst}
use mathlib.Core.List.Memᴰ
use mathlib.Core.List.{List, [], ◌∷◌, ◌++◌, append_assoc, Memᴰ}
use mathlib.Core.Logic.{⊎_elim}
use Prim.Native.Nat.{ℕ, ◌+◌, ◌*◌, ◌≤◌}
use native.Mathlib.Omega.{arith}
use lib.IntN.{ℤ, pos}
use lib.ListN.{length, length-append}
use Rattle.instance.specs.Terms.{Term}
use Rattle.instance.specs.Rows.{Entry}
use Rattle.instance.specs.Layout.{term_numbers, all_terms, entry_numbers}

-- ---- all_terms
pub all_terms-append : (xs ys : List Entry) → all_terms (xs ++ ys) ≡ all_terms xs ++ all_terms ys
unfolding all_terms
all_terms-append [] ys = refl
all_terms-append (x ∷ xs) ys = ap (λ (l : List Term). x.terms ++ l) (all_terms-append xs ys) ∙ sym (append_assoc x.terms (all_terms xs) (all_terms ys))

-- The terms of one of the entries are among all, and no more.
pub all_terms-member : (es : List Entry) (e : Entry) (t : Term) → Memᴰ e es → Memᴰ t e.terms → Memᴰ t (all_terms es)
unfolding all_terms
all_terms-member [] e t m h = absurd (Memᴰ.not-nil m)
all_terms-member (x ∷ xs) e t m h =
    ⊎_elim (λ s. Memᴰ.append_left (all_terms xs) (subst (λ (y : Entry). Memᴰ t y.terms) s h))
    (λ n. Memᴰ.append_right x.terms (all_terms-member xs e t n h))
    (Memᴰ.cases_cons m)

pub all_terms-le : (es : List Entry) (e : Entry) → Memᴰ e es → length e.terms ≤ length (all_terms es)
unfolding all_terms
all_terms-le [] e m = absurd (Memᴰ.not-nil m)
all_terms-le (x ∷ xs) e m =
    ⊎_elim (λ s. let l : length e.terms ≡ length x.terms = ap (λ (y : Entry). length y.terms) s in omega (arith, length-append x.terms (all_terms xs)))
    (λ n. let l : length e.terms ≤ length (all_terms xs) = all_terms-le xs e n in omega (arith, length-append x.terms (all_terms xs)))
    (Memᴰ.cases_cons m)

-- ---- term_numbers
pub term_numbers-append : (xs ys : List Term) → term_numbers (xs ++ ys) ≡ term_numbers xs ++ term_numbers ys
unfolding term_numbers
term_numbers-append [] ys = refl
term_numbers-append (x ∷ xs) ys = ap (λ (l : List ℤ). x.coef ∷ (x.lit ∷ l)) (term_numbers-append xs ys)

pub term_numbers-length : (ts : List Term) → length (term_numbers ts) ≡ length ts * 2
unfolding term_numbers
term_numbers-length [] = refl
term_numbers-length (t ∷ ts) = let r : length (term_numbers ts) ≡ length ts * 2 = term_numbers-length ts in omega arith

-- ---- entry_numbers
pub entry_numbers-append : (f : ℕ) (xs ys : List Entry) → entry_numbers f (xs ++ ys) ≡ entry_numbers f xs ++ entry_numbers (f + length (all_terms xs)) ys
unfolding entry_numbers all_terms
entry_numbers-append f [] ys = let e : f ≡ f + 0 = omega arith in ap (λ (g : ℕ). entry_numbers g ys) e
entry_numbers-append f (x ∷ xs) ys =
    let n = length x.terms in
    let e : (f + n) + length (all_terms xs) ≡ f + length (x.terms ++ all_terms xs) = omega (arith, length-append x.terms (all_terms xs)) in
    ap (λ (l : List ℤ). pos x.kind ∷ (pos f ∷ (pos n ∷ (x.bound ∷ l))))
    (entry_numbers-append (f + n) xs ys ∙ ap (λ (g : ℕ). entry_numbers (f + n) xs ++ entry_numbers g ys) e)

pub entry_numbers-length : (f : ℕ) (es : List Entry) → length (entry_numbers f es) ≡ length es * 4
unfolding entry_numbers
entry_numbers-length f [] = refl
entry_numbers-length f (e ∷ es) =
    let r : length (entry_numbers (f + length e.terms) es) ≡ length es * 4 = entry_numbers-length (f + length e.terms) es in omega arith
