-- The order of vectors and dominance: both are what their names say.
use mathlib.Core.Path.{◌≡◌, refl, sym, ap, ap₂, subst, ◌∙◌}
use mathlib.Core.Logic.{◌⊎◌, inl, inr, ⊎_elim}
use mathlib.Core.Bool.{Bool, true, false, cond, ◌&&◌}
use mathlib.Core.List.{List, [], ◌∷◌, ◌++◌}
use Prim.Native.Nat.{suc, ◌+◌, ◌≤◌, ◌<◌}
use native.Mathlib.Omega.{arith}
use borrow.Author.Tests.{lt-ltb, le-ltb, ltb-true, ltb-false, le-leb, leb-true}
use lib.Dec.{T}
use lib.IntN.{ℤ}
use lib.ListN.{length}
use lib.Signed.{lt_z, le_z}
use Rattle.integers.proofs.SignedLaws.{up, dn, lt-parts, le_parts, same_parts}
use Rattle.points.specs.Vectors.{le_all, LeAll, lex, Lex}

-- ---- numbers
pub lt_of : (x y : ℤ) → lt_z x y ≡ true → up x + dn y < up y + dn x
lt_of x y e = ltb-true (up x + dn y) (up y + dn x) (sym (lt-parts x y) ∙ e)

not-lt-of : (x y : ℤ) → lt_z x y ≡ false → up y + dn x ≤ up x + dn y
not-lt-of x y e = ltb-false (up x + dn y) (up y + dn x) (sym (lt-parts x y) ∙ e)

lt_yes : (x y : ℤ) → up x + dn y < up y + dn x → lt_z x y ≡ true
lt_yes x y h = lt-parts x y ∙ lt-ltb (up x + dn y) (up y + dn x) h

lt_no : (x y : ℤ) → up y + dn x ≤ up x + dn y → lt_z x y ≡ false
lt_no x y h = lt-parts x y ∙ le-ltb (up x + dn y) (up y + dn x) h

le_of : (x y : ℤ) → le_z x y ≡ true → up x + dn y ≤ up y + dn x
le_of x y e = leb-true (up x + dn y) (up y + dn x) (sym (le_parts x y) ∙ e)

pub le_yes : (x y : ℤ) → up x + dn y ≤ up y + dn x → le_z x y ≡ true
le_yes x y h = le_parts x y ∙ le-leb (up x + dn y) (up y + dn x) h

pub clash {ℓ} : {X : Type ℓ} {t : Bool} → t ≡ true → t ≡ false → X
clash e f = absurd (subst T (sym e ∙ f) tt)

-- ---- lex
pub lex-nil : (a : List ℤ) → lex a [] ≡ false
unfolding lex
lex-nil [] = refl
lex-nil (x ∷ xs) = refl

module _ (x y : ℤ) (xs ys : List ℤ) where
  pub lex-less : lt_z x y ≡ true → lex (x ∷ xs) (y ∷ ys) ≡ true
  unfolding lex
  lex-less e = ap (λ (t : Bool). cond t true (cond (lt_z y x) false (lex xs ys))) e

  pub lex-more : lt_z x y ≡ false → lt_z y x ≡ true → lex (x ∷ xs) (y ∷ ys) ≡ false
  unfolding lex
  lex-more e f = ap (λ (t : Bool). cond t true (cond (lt_z y x) false (lex xs ys))) e ∙ ap (λ (t : Bool). cond t false (lex xs ys)) f

  pub lex-next : lt_z x y ≡ false → lt_z y x ≡ false → lex (x ∷ xs) (y ∷ ys) ≡ lex xs ys
  unfolding lex
  lex-next e f = ap (λ (t : Bool). cond t true (cond (lt_z y x) false (lex xs ys))) e ∙ ap (λ (t : Bool). cond t false (lex xs ys)) f

-- The first values differ, or are equal and the rest decides.
pub data Compared (x y : ℤ) (xs ys : List ℤ) : Type 0 where
  less : lt_z x y ≡ true → Compared x y xs ys
  rest : x ≡ y → Lex xs ys → Compared x y xs ys

pub compare : (x y : ℤ) (xs ys : List ℤ) → Lex (x ∷ xs) (y ∷ ys) → Compared x y xs ys
compare x y xs ys h = by (lt_z x y) refl (lt_z y x) refl
  where
    by : (t : Bool) → lt_z x y ≡ t → (u : Bool) → lt_z y x ≡ u → Compared x y xs ys
    by true e u f = less e
    by false e true f = clash h (lex-more x y xs ys e f)
    by false e false f =
        rest (same_parts x y (omega (arith, not-lt-of x y e, not-lt-of y x f))) (sym (lex-next x y xs ys e f) ∙ h)

same_next : (x y : ℤ) (xs ys : List ℤ) → x ≡ y → lex (x ∷ xs) (y ∷ ys) ≡ lex xs ys
same_next x y xs ys e =
    subst (λ (z : ℤ). lex (x ∷ xs) (z ∷ ys) ≡ lex xs ys) e (lex-next x x xs ys (lt_no x x (omega arith)) (lt_no x x (omega arith)))

pub lex_irrefl : (a : List ℤ) → Lex a a → ⊥
lex_irrefl [] h = clash h (lex-nil [])
lex_irrefl (x ∷ xs) h = lex_irrefl xs (sym (same_next x x xs xs refl) ∙ h)

pub lex-trans : (a b c : List ℤ) → Lex a b → Lex b c → Lex a c
unfolding lex
lex-trans a b [] h k = clash k (lex-nil b)
lex-trans a [] (z ∷ zs) h k = clash h (lex-nil a)
lex-trans [] (y ∷ ys) (z ∷ zs) h k = refl
lex-trans (x ∷ xs) (y ∷ ys) (z ∷ zs) h k = by (lex-trans xs ys zs) (compare x y xs ys h) (compare y z ys zs k)
  where
    by : (Lex xs ys → Lex ys zs → Lex xs zs) → Compared x y xs ys → Compared y z ys zs → Lex (x ∷ xs) (z ∷ zs)
    by f (less p) (less q) = lex-less x z xs zs (lt_yes x z (omega (arith, lt_of x y p, lt_of y z q)))
    by f (less p) (rest e q) = lex-less x z xs zs (subst (λ (w : ℤ). lt_z x w ≡ true) e p)
    by f (rest e p) (less q) = lex-less x z xs zs (subst (λ (w : ℤ). lt_z w z ≡ true) (sym e) q)
    by f (rest e p) (rest g q) = same_next x z xs zs (e ∙ g) ∙ f p q

pub lex-total : (a b : List ℤ) → length a ≡ length b → Lex a b ⊎ ((a ≡ b) ⊎ Lex b a)
lex-total [] [] e = inr (inl refl)
lex-total [] (y ∷ ys) e = absurd (omega arith)
lex-total (x ∷ xs) [] e = absurd (omega arith)
lex-total (x ∷ xs) (y ∷ ys) e = by (lex-total xs ys (omega arith)) (lt_z x y) refl (lt_z y x) refl
  where
    by : Lex xs ys ⊎ ((xs ≡ ys) ⊎ Lex ys xs) → (t : Bool) → lt_z x y ≡ t → (u : Bool) → lt_z y x ≡ u → Lex (x ∷ xs) (y ∷ ys) ⊎ (((x ∷ xs) ≡ (y ∷ ys)) ⊎ Lex (y ∷ ys) (x ∷ xs))
    by r true p u q = inl (lex-less x y xs ys p)
    by r false p true q = inr (inr (lex-less y x ys xs q))
    by r false p false q =
        let s : x ≡ y = same_parts x y (omega (arith, not-lt-of x y p, not-lt-of y x q)) in
        ⊎_elim (λ h. inl (same_next x y xs ys s ∙ h))
        (⊎_elim (λ h. inr (inl (ap₂ ◌∷◌ s h))) (λ h. inr (inr (same_next y x ys xs (sym s) ∙ h))))
        r

-- ---- le_all
and_first : (a b : Bool) → (a && b) ≡ true → a ≡ true
and_first true b e = refl
and_first false b e = absurd (subst T (sym e) tt)

and-next : (a b : Bool) → (a && b) ≡ true → b ≡ true
and-next true b e = e
and-next false b e = absurd (subst T (sym e) tt)

pub and_both : (a b : Bool) → a ≡ true → b ≡ true → (a && b) ≡ true
and_both a b e f = ap (λ (t : Bool). t && b) e ∙ f

module _ (x y : ℤ) (xs ys : List ℤ) (h : LeAll (x ∷ xs) (y ∷ ys)) where
  pub le-head : up x + dn y ≤ up y + dn x
  unfolding le_all
  le-head = le_of x y (and_first (le_z x y) (le_all xs ys) h)

  pub le-tail : LeAll xs ys
  unfolding le_all
  le-tail = and-next (le_z x y) (le_all xs ys) h

pub le_all-length : (a b : List ℤ) → LeAll a b → length a ≡ length b
unfolding le_all
le_all-length [] [] h = refl
le_all-length [] (y ∷ ys) h = absurd (subst T (sym h) tt)
le_all-length (x ∷ xs) [] h = absurd (subst T (sym h) tt)
le_all-length (x ∷ xs) (y ∷ ys) h = ap suc (le_all-length xs ys (le-tail x y xs ys h))

pub le_all-refl : (a : List ℤ) → LeAll a a
unfolding le_all
le_all-refl [] = refl
le_all-refl (x ∷ xs) = and_both (le_z x x) (le_all xs xs) (le_yes x x (omega arith)) (le_all-refl xs)

pub le_all-trans : (a b c : List ℤ) → LeAll a b → LeAll b c → LeAll a c
unfolding le_all
le_all-trans [] [] c h k = k
le_all-trans [] (y ∷ ys) c h k = absurd (subst T (sym h) tt)
le_all-trans (x ∷ xs) [] c h k = absurd (subst T (sym h) tt)
le_all-trans (x ∷ xs) (y ∷ ys) [] h k = absurd (subst T (sym k) tt)
le_all-trans (x ∷ xs) (y ∷ ys) (z ∷ zs) h k =
    and_both (le_z x z) (le_all xs zs) (le_yes x z (omega (arith, le-head x y xs ys h, le-head y z ys zs k)))
    (le_all-trans xs ys zs (le-tail x y xs ys h) (le-tail y z ys zs k))

pub le_all-antisym : (a b : List ℤ) → LeAll a b → LeAll b a → a ≡ b
unfolding le_all
le_all-antisym [] [] h k = refl
le_all-antisym [] (y ∷ ys) h k = absurd (subst T (sym h) tt)
le_all-antisym (x ∷ xs) [] h k = absurd (subst T (sym h) tt)
le_all-antisym (x ∷ xs) (y ∷ ys) h k =
    ap₂ ◌∷◌ (same_parts x y (omega (arith, le-head x y xs ys h, le-head y x ys xs k)))
    (le_all-antisym xs ys (le-tail x y xs ys h) (le-tail y x ys xs k))

-- What is at most b in every place does not come after b.
pub le_all-lex : (a b : List ℤ) → LeAll a b → Lex b a → ⊥
le_all-lex [] b h k = clash k (lex-nil b)
le_all-lex (x ∷ xs) [] h k = absurd (omega (arith, le_all-length (x ∷ xs) [] h))
le_all-lex (x ∷ xs) (y ∷ ys) h k = by (le_all-lex xs ys (le-tail x y xs ys h)) (compare y x ys xs k)
  where
    by : (Lex ys xs → ⊥) → Compared y x ys xs → ⊥
    by f (less p) = omega (arith, lt_of y x p, le-head x y xs ys h)
    by f (rest e p) = f p

-- ---- the same places after both, as unused values are
pub le_all-append : (a b z : List ℤ) → length a ≡ length b → le_all (a ++ z) (b ++ z) ≡ le_all a b
unfolding le_all
le_all-append [] [] z e = le_all-refl z
le_all-append [] (y ∷ ys) z e = absurd (omega arith)
le_all-append (x ∷ xs) [] z e = absurd (omega arith)
le_all-append (x ∷ xs) (y ∷ ys) z e = ap (λ (t : Bool). le_z x y && t) (le_all-append xs ys z (omega arith))

lex-same : (z : List ℤ) → lex z z ≡ false
lex-same z = by (lex z z) refl
  where
    by : (t : Bool) → lex z z ≡ t → t ≡ false
    by true e = absurd (lex_irrefl z e)
    by false e = refl

pub lex-append : (a b z : List ℤ) → length a ≡ length b → lex (a ++ z) (b ++ z) ≡ lex a b
unfolding lex
lex-append [] [] z e = lex-same z
lex-append [] (y ∷ ys) z e = absurd (omega arith)
lex-append (x ∷ xs) [] z e = absurd (omega arith)
lex-append (x ∷ xs) (y ∷ ys) z e = ap (λ (t : Bool). cond (lt_z x y) true (cond (lt_z y x) false t)) (lex-append xs ys z (omega arith))
