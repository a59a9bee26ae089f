-- Runs that go on with one term more. Assumes nothing.
use mathlib.Core.Path.{◌≡◌, refl, sym, ap, ap₂, ◌∙◌}
use mathlib.Core.Bool.{Bool, true, false, cond}
use mathlib.Core.List.{List, [], ◌∷◌, ◌++◌, map, append_assoc, append-nil}
use Prim.Native.Nat.{ℕ, suc, ◌+◌, ◌≤◌, ◌<◌}
use native.Mathlib.Omega.{arith}
use lib.IntN.{ℤ, nat_abs}
use lib.ListN.{length, take, set, length-set, length-map}
use lib.Seq.{take-suc-set}
use Rattle.charging.specs.declared.rows.Term.{Term as HalfTerm}
use Rattle.instance.specs.Limits.{max_coef}
use Rattle.instance.specs.Terms.{Term, TermOk}
use Rattle.instance.specs.Tables.{term_at}
use Rattle.instance.specs.Meaning.{terms_at}
use Rattle.instance.specs.Lists.{tabulate}
use Rattle.instance.proofs.ListLaws.{tabulate-snoc, tabulate-length}
use Rattle.normal.specs.declared.Half.{Half}
use Rattle.normal.specs.Halves.{half_of, is_negative, lost_all}
use Rattle.normal.specs.Rows.{halves_at, terms_of, HalfPut}

-- ---- map

pub map-append : {A B : Type 0} (f : A → B) (xs ys : List A) → map f (xs ++ ys) ≡ map f xs ++ map f ys
map-append {A} {B} f [] ys = refl
map-append {A} {B} f (x ∷ xs) ys = ap (λ (l : List B). f x ∷ l) (map-append f xs ys)

-- ---- halves_at

pub halves-snoc : (ts : List ℤ) (first k : ℕ) (turn : Bool) → halves_at ts first (k + 1) turn ≡ halves_at ts first k turn ++ (half_of turn (term_at ts (first + k)) ∷ [])
halves-snoc ts first k turn = ap (map (half_of turn)) (tabulate-snoc (term_at ts) first k) ∙ map-append (half_of turn) (terms_at ts first k) (term_at ts (first + k) ∷ [])

pub halves-length : (ts : List ℤ) (first k : ℕ) (turn : Bool) → length (halves_at ts first k turn) ≡ k
halves-length ts first k turn = length-map (terms_at ts first k) (half_of turn) ∙ tabulate-length (term_at ts) first k

-- ---- lost_all

lost-append : (xs ys : List Half) → lost_all (xs ++ ys) ≡ lost_all xs + lost_all ys
unfolding lost_all
lost-append [] ys = omega arith
lost-append (x ∷ xs) ys = omega (arith, lost-append xs ys)

pub lost-snoc : (hs : List Half) (h : Half) → lost_all (hs ++ (h ∷ [])) ≡ lost_all hs + h.lost
unfolding lost_all
lost-snoc hs h = omega (arith, lost-append hs (h ∷ []))

-- ---- HalfPut

module _ (ts : List ℤ) (first : ℕ) (turn : Bool) (at : ℕ) where
  pub put-none : (before : List HalfTerm) → HalfPut ts first 0 turn at before before 0
  unfolding tabulate lost_all
  put-none before = record { same = refl; laid = ap (λ (n : ℕ). take n before) none ∙ sym (append-nil (take at before)); lost = refl }
    where
      none : at + 0 ≡ at
      none = omega arith

  -- one term more, at place at + k, where k terms stand already
  pub put-more : (k : ℕ) {before after : List HalfTerm} {r : ℕ} → HalfPut ts first k turn at before after r → at + k < length before
      → (h : Half) → h ≡ half_of turn (term_at ts (first + k)) → HalfPut ts first (k + 1) turn at before (set after (at + k) h.term) (r + h.lost)
  put-more k {before} {after} p l h e = record {
    same = simp length-set p.same;
    laid = ap (λ (n : ℕ). take n (set after (at + k) h.term)) up
        ∙ take-suc-set after (at + k) h.term (omega (arith, p.same))
        ∙ ap₂ (λ (xs : List HalfTerm) (x : Half). xs ++ (x.term ∷ [])) p.laid e
        ∙ append_assoc (take at before) (terms_of (halves_at ts first k turn)) (half.term ∷ [])
        ∙ ap (λ (xs : List HalfTerm). take at before ++ xs) (sym (map-append (λ (x : Half). x.term) (halves_at ts first k turn) (half ∷ [])))
        ∙ ap (λ (hs : List Half). take at before ++ terms_of hs) (sym (halves-snoc ts first k turn));
    lost = ap₂ ◌+◌ p.lost (ap (λ (x : Half). x.lost) e) ∙ sym (lost-snoc (halves_at ts first k turn) half) ∙ ap lost_all (sym (halves-snoc ts first k turn));
  }
    where
      half : Half
      half = half_of turn (term_at ts (first + k))

      up : at + (k + 1) ≡ suc (at + k)
      up = omega arith

-- what is added for a term is at most its weight
pub lost-le : (turn : Bool) (t : Term) → TermOk t → (half_of turn t).lost ≤ max_coef
lost-le turn t h = by (is_negative turn t.coef)
  where
    by : (b : Bool) → cond b (nat_abs t.coef) 0 ≤ max_coef
    by true = h.small
    by false = omega arith
