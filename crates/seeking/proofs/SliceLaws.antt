-- The order of slices is that of vectors: by the first place where two lists of one length differ.
use mathlib.Core.Path.{◌≡◌, refl, sym, ◌∙◌}
use mathlib.Core.Logic.{inl, inr, ⊎_elim}
use mathlib.Core.Bool.{Bool, true, false}
use mathlib.Core.List.{List, [], ◌∷◌}
use Prim.Native.Nat.{ℕ, zero, suc, ◌+◌, ◌≤◌}
use native.Mathlib.Omega.{arith}
use native.Mathlib.Numerals.{add-one}
use lib.ListN.{length, take}
use lib.Dec.{ltb, eqb}
use borrow.Author.Tests.{ltb-true, ltb-false, eq-eqb, ne_eqb}
use Rattle.std.proofs.Common.{cond}
use Rattle.std.proofs.lemmas.Bool.Decides.{nat_tests}
use Rattle.std.specs.Ordering.{is_lt, is_some_and, nat_cmp}
use Rattle.std.specs.Cmp.Lexicographic.{slice_partial_cmp}
use Rattle.std.specs.Prelude.{Some}
use Rattle.std.proofs.lemmas.Cmp.{same_from_slice_cmp_tested}
use Rattle.std.proofs.lemmas.List.{length-take-le, get_or-take}
use Rattle.charging.proofs.SumLaws.{eq-or}
use Rattle.capping.specs.Caps.{less, at}
use Rattle.capping.proofs.OrderLaws.{lex-same}

-- the order of two lists as a test
abbrev first_less : List ℕ → List ℕ → Bool
first_less [] [] = false
first_less [] (y ∷ ys) = true
first_less (x ∷ xs) [] = false
first_less (x ∷ xs) (y ∷ ys) = cond (eqb x y) (first_less xs ys) (ltb x y)

is_first_less : (xs ys : List ℕ) (r : Bool) → r ≡ is_some_and is_lt (slice_partial_cmp (λ x y. Some (nat_cmp x y)) xs ys) → r ≡ first_less xs ys
is_first_less = same_from_slice_cmp_tested nat_cmp is_lt first_less refl (λ _ _. refl) (λ _ _. refl) (λ x y xs ys o h. grind (arith, nat_tests))

-- from the second place on
module _ (f g f' g' : ℕ → ℕ) (a : (i : ℕ) → f' i ≡ f (i + 1)) (b : (i : ℕ) → g' i ≡ g (i + 1)) where
  less-up : (m j : ℕ) → less m j f' g' → less m (j + 1) f g
  unfolding less
  less-up zero j h = h
  less-up (suc m) j h = ⊎_elim (λ z. inl (omega (arith, z, a j, b j))) (λ z. inr (sym (a j) ∙ z.0 ∙ b j, less-up m (j + 1) z.1)) h

  less-down : (m j : ℕ) → less m (j + 1) f g → less m j f' g'
  unfolding less
  less-down zero j h = h
  less-down (suc m) j h = ⊎_elim (λ z. inl (omega (arith, z, a j, b j))) (λ z. inr (a j ∙ z.0 ∙ sym (b j), less-down m (j + 1) z.1)) h

tail-at : (x : ℕ) (xs : List ℕ) (i : ℕ) → at xs i ≡ at (x ∷ xs) (i + 1)
tail-at x xs i = rw add-one refl

yes : (xs ys : List ℕ) → length xs ≡ length ys → first_less xs ys ≡ true → less (length xs) 0 (at xs) (at ys)
unfolding less
yes [] [] e h = cc
yes [] (y ∷ ys) e h = absurd (omega arith)
yes (x ∷ xs) [] e h = absurd (omega arith)
yes (x ∷ xs) (y ∷ ys) e h =
    ⊎_elim
    (λ q. inr (q, less-up (at (x ∷ xs)) (at (y ∷ ys)) (at xs) (at ys) (tail-at x xs) (tail-at y ys) (length xs) 0 (yes xs ys (omega arith) (rw (eq-eqb x y q) at h))))
    (λ q. inl (ltb-true x y (rw (ne_eqb x y q) at h))) (eq-or x y)

no : (xs ys : List ℕ) → length xs ≡ length ys → first_less xs ys ≡ false → less (length xs) 0 (at xs) (at ys) → ⊥
unfolding less
no [] [] e h l = l
no [] (y ∷ ys) e h l = absurd (omega arith)
no (x ∷ xs) [] e h l = absurd (omega arith)
no (x ∷ xs) (y ∷ ys) e h l =
    ⊎_elim
    (λ q. ⊎_elim (λ z. omega (arith, z, q))
    (λ z. no xs ys (omega arith) (rw (eq-eqb x y q) at h) (less-down (at (x ∷ xs)) (at (y ∷ ys)) (at xs) (at ys) (tail-at x xs) (tail-at y ys) (length xs) 0 z.1)) l)
    (λ q. ⊎_elim (λ z. omega (arith, z, ltb-false x y (rw (ne_eqb x y q) at h))) (λ z. q z.0) l) (eq-or x y)

-- the first k places of two vectors
module _ (k : ℕ) (f h : List ℕ) (l : k ≤ length f) (m : k ≤ length h) (r : Bool)
    (e : r ≡ is_some_and is_lt (slice_partial_cmp (λ x y. Some (nat_cmp x y)) (take k f) (take k h))) where
  fl : length (take k f) ≡ k
  fl = length-take-le k f l

  same-long : length (take k f) ≡ length (take k h)
  same-long = fl ∙ sym (length-take-le k h m)

  pub slice-yes : r ≡ true → less k 0 (at f) (at h)
  slice-yes z =
      lex-same k 0 k (at (take k f)) (at f) (at (take k h)) (at h) (omega arith) (λ i y. get_or-take k f i 0 y) (λ i y. get_or-take k h i 0 y)
      (rw fl at (yes (take k f) (take k h) same-long (sym (is_first_less (take k f) (take k h) r e) ∙ z)))

  pub slice-no : r ≡ false → less k 0 (at f) (at h) → ⊥
  slice-no z y =
      no (take k f) (take k h) same-long (sym (is_first_less (take k f) (take k h) r e) ∙ z)
      (rw fl (lex-same k 0 k (at f) (at (take k f)) (at h) (at (take k h)) (omega arith) (λ i u. sym (get_or-take k f i 0 u)) (λ i u. sym (get_or-take k h i 0 u)) y))
