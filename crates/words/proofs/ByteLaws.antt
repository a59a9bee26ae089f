-- Laws of bytes and places. Assumes nothing.
use mathlib.Core.Path.{◌≡◌, refl, sym, ap, ◌∙◌, subst}
use mathlib.Core.Bool.{Bool, true, false, not, cond, ◌||◌, ◌&&◌}
use mathlib.Core.List.{List}
use Prim.Native.Nat.{ℕ, ◌+◌, ◌≤◌, ◌<◌}
use native.Mathlib.Decide.{dec_lt}
use native.Mathlib.Omega.{arith}
use lib.ListN.{get_or}
use lib.Dec.{T, eqb}
use borrow.Author.Tests.{ne_eqb, not-true}
use Rattle.words.specs.declared.Place.{Place}
use Rattle.words.specs.declared.Place.TheVariants.{Inside, Start}
use Rattle.words.specs.Bytes.{is_blank, is_plain, begins, is_kept, place_after}

-- false is not true
pub clash : {A : Type 0} → false ≡ true → A
clash e = absurd (subst T (sym e) tt)

-- ---- is_blank

pub blank-last : (b : ℕ) → (b ≡ 32 → ⊥) → (b ≡ 9 → ⊥) → (b ≡ 13 → ⊥) → eqb b 10 ≡ is_blank b
blank-last b h k l = sym (by (ne_eqb b 32 h) (ne_eqb b 9 k) (ne_eqb b 13 l))
  where
    by : eqb b 32 ≡ false → eqb b 9 ≡ false → eqb b 13 ≡ false → is_blank b ≡ eqb b 10
    by e f g =
        ap (λ (t : Bool). t || (eqb b 9 || (eqb b 13 || eqb b 10))) e
        ∙ ap (λ (t : Bool). t || (eqb b 13 || eqb b 10)) f
        ∙ ap (λ (t : Bool). t || eqb b 10) g

-- neither of two tests holds
pub or-neither : (s t : Bool) → s || t ≡ false → (s ≡ false) × (t ≡ false)
or-neither true t e = clash (sym e)
or-neither false t e = (refl, e)

-- ---- is_plain

pub plain-blank : (b : ℕ) → is_plain b ≡ true → is_blank b ≡ false
plain-blank b h = (or-neither (is_blank b) (eqb b 59) (by (is_blank b || eqb b 59) h)).0
  where
    by : (t : Bool) → not t ≡ true → t ≡ false
    by t e = not-true t e

pub plain-stop : (b : ℕ) → is_plain b ≡ true → eqb b 59 ≡ false
plain-stop b h = (or-neither (is_blank b) (eqb b 59) (not-true (is_blank b || eqb b 59) h)).1

-- a byte that is no blank is no line end
pub blank-line : (b : ℕ) → is_blank b ≡ false → eqb b 10 ≡ false
blank-line b h = (or-neither (eqb b 13) (eqb b 10) (or-neither (eqb b 9) (eqb b 13 || eqb b 10) (or-neither (eqb b 32) (eqb b 9 || (eqb b 13 || eqb b 10)) h).1).1).1

pub not-blank-after : (b : ℕ) → is_blank b ≡ false → place_after b ≡ Inside
not-blank-after b h = ap (λ (t : Bool). cond t Start Inside) (blank-line b h)

-- ---- begins

-- a byte that begins nothing is a blank, or not kept
pub begins-false : {A : Type 0} (p : Place) (b : ℕ) → begins p b ≡ false → (is_kept p b ≡ false → A) → (is_kept p b ≡ true → is_blank b ≡ true → A) → A
begins-false {A} p b e f g = by (is_blank b) (is_kept p b) refl refl e
  where
    by : (t k : Bool) → is_blank b ≡ t → is_kept p b ≡ k → not t && k ≡ false → A
    by true true h i e = g i h
    by true false h i e = f i
    by false true h i e = clash (sym e)
    by false false h i e = f i

pub begins-true : (p : Place) (b : ℕ) → begins p b ≡ true → (is_kept p b ≡ true) × (is_blank b ≡ false)
begins-true p b e = by (is_blank b) (is_kept p b) refl refl e
  where
    by : (t k : Bool) → is_blank b ≡ t → is_kept p b ≡ k → not t && k ≡ true → (is_kept p b ≡ true) × (is_blank b ≡ false)
    by true true h i e = clash e
    by true false h i e = clash e
    by false true h i e = (i, h)
    by false false h i e = clash e

-- ---- runs of a text

-- one plain byte more
pub plain_more : (text : List ℕ) (first i : ℕ) → ((k : ℕ) → first ≤ k → k < i → is_plain (get_or text k 0) ≡ true) → is_plain (get_or text i 0) ≡ true
    → (k : ℕ) → first ≤ k → k < i + 1 → is_plain (get_or text k 0) ≡ true
plain_more text first i h e k l m = by (dec_lt k i)
  where
    by : Dec (k < i) → is_plain (get_or text k 0) ≡ true
    by (yes u) = h k l u
    by (no u) = ap (λ (j : ℕ). is_plain (get_or text j 0)) same ∙ e
      where
        same : k ≡ i
        same = omega arith
