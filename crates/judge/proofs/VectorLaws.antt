-- Laws of an instance's vector: the value of each objective, and 0 where there is none.
use mathlib.Core.Path.{◌≡◌, refl, sym, ap, ◌∙◌, subst}
use mathlib.Core.List.{List, [], ◌∷◌, map, Memᴰ}
use Prim.Native.Nat.{ℕ, zero, suc, ◌+◌, ◌≤◌, ◌<◌, zero-le}
use native.Mathlib.Omega.{arith}
use lib.IntN.{ℤ, pos, nat_abs}
use lib.ListN.{length, get_or, take, get_or-map, get_or-eq_default}
use lib.Seq.{length-take-le, get_or-take, ext_get_or}
use Rattle.instance.specs.Limits.{max_bound}
use Rattle.instance.specs.Lists.{tabulate}
use Rattle.instance.specs.Terms.{sum}
use Rattle.instance.specs.Rows.{Entry}
use Rattle.instance.specs.Tables.{objectives_in}
use Rattle.instance.specs.Meaning.{Instance, entries, entry_at, meaning, vector}
use Rattle.instance.specs.Layout.{Within}
use Rattle.instance.proofs.ListLaws.{tabulate-length, tabulate-get_or}
use Rattle.instance.proofs.ReadLaws.{no_entry}
use Rattle.instance.proofs.SumLaws.{sum_bound}
use Rattle.instance.proofs.NumberLaws.{all_terms-member, all_terms-le}
use Rattle.judge.specs.Judging.{padded}

module _ (ts rs : List ℤ) (a : ℕ) where
  vector-get_or : (k : ℕ) → get_or (vector (meaning ts rs) a) k (pos 0) ≡ sum (get_or (tabulate (entry_at ts rs) 0 (objectives_in rs)) k no_entry).terms a
  unfolding sum
  vector-get_or k = get_or-map (λ (o : Entry). sum o.terms a) (tabulate (entry_at ts rs) 0 (objectives_in rs)) k no_entry

  pub vector-at : (k : ℕ) → k < objectives_in rs → get_or (vector (meaning ts rs) a) k (pos 0) ≡ sum (entry_at ts rs k).terms a
  vector-at k h =
      let e : 0 + k ≡ k = omega arith in
      vector-get_or k ∙ ap (λ (o : Entry). sum o.terms a) (tabulate-get_or (entry_at ts rs) 0 (objectives_in rs) k no_entry h ∙ ap (entry_at ts rs) e)

  pub vector-none : (k : ℕ) → objectives_in rs ≤ k → get_or (vector (meaning ts rs) a) k (pos 0) ≡ pos 0
  unfolding sum
  vector-none k h =
      vector-get_or k
      ∙ ap (λ (o : Entry). sum o.terms a)
      (get_or-eq_default (tabulate (entry_at ts rs) 0 (objectives_in rs)) no_entry (omega (arith, tabulate-length (entry_at ts rs) 0 (objectives_in rs))))

-- ---- padded
-- Four numbers that are the first four values.
pub padded-as : (v : List ℤ) {p q r s : ℤ}
    → p ≡ get_or v 0 (pos 0)
    → q ≡ get_or v 1 (pos 0)
    → r ≡ get_or v 2 (pos 0)
    → s ≡ get_or v 3 (pos 0)
    → p ∷ (q ∷ (r ∷ (s ∷ []))) ≡ padded v
padded-as v {p} {q} {r} {s} e f g h =
    ap (λ (x : ℤ). x ∷ (q ∷ (r ∷ (s ∷ [])))) e
    ∙ (ap (λ (x : ℤ). get_or v 0 (pos 0) ∷ (x ∷ (r ∷ (s ∷ [])))) f
    ∙ (ap (λ (x : ℤ). get_or v 0 (pos 0) ∷ (get_or v 1 (pos 0) ∷ (x ∷ (s ∷ [])))) g
    ∙ ap (λ (x : ℤ). get_or v 0 (pos 0) ∷ (get_or v 1 (pos 0) ∷ (get_or v 2 (pos 0) ∷ (x ∷ [])))) h))

-- The value at each place, and the vector itself.
module _ (v : List ℤ) where
  pub padded-get_or : (k : ℕ) → k < 4 → get_or (padded v) k (pos 0) ≡ get_or v k (pos 0)
  padded-get_or zero h = refl
  padded-get_or (suc zero) h = refl
  padded-get_or (suc (suc zero)) h = refl
  padded-get_or (suc (suc (suc zero))) h = refl
  padded-get_or (suc (suc (suc (suc k)))) h = absurd (omega arith)

  pub padded-take : length v ≤ 4 → take (length v) (padded v) ≡ v
  padded-take h =
      let l : length (take (length v) (padded v)) ≡ length v = length-take-le (length v) (padded v) h in
      ext_get_or (pos 0) (take (length v) (padded v)) v l
      (λ i m.
      let m' : i < length v = subst (λ (n : ℕ). i < n) l m in
      get_or-take (length v) (padded v) i (pos 0) m' ∙ padded-get_or i (omega arith))

-- Two vectors of one length that have the same four values are equal.
pub padded-same : (v w : List ℤ) → length v ≤ 4 → length w ≡ length v → padded v ≡ padded w → v ≡ w
padded-same v w h l e =
    sym (padded-take v h)
    ∙ (ap (take (length v)) e ∙ (ap (λ (n : ℕ). take n (padded w)) (sym l) ∙ padded-take w (omega arith)))

-- ---- length
values_length : (a : ℕ) (os : List Entry) → length (map (λ (o : Entry). sum o.terms a) os) ≡ length os
values_length a [] = refl
values_length a (o ∷ os) = ap suc (values_length a os)

pub vector-length : (i : Instance) (a : ℕ) → length (vector i a) ≡ length i.objectives
vector-length i a = values_length a i.objectives

-- ---- Within
values-bound : (B a : ℕ) (os : List Entry)
    → ((e : Entry) → Memᴰ e os → nat_abs (sum e.terms a) ≤ B)
    → (k : ℕ) → nat_abs (get_or (map (λ (o : Entry). sum o.terms a) os) k (pos 0)) ≤ B
values-bound B a [] h k = zero-le
values-bound B a (o ∷ os) h zero = h o (mathlib.Core.List.Memᴰ.head refl)
values-bound B a (o ∷ os) h (suc k) = values-bound B a os (λ e m. h e (mathlib.Core.List.Memᴰ.tail m)) k

module _ {i : Instance} (w : Within i) (a : ℕ) where
  -- Every value is within the largest bound.
  pub value-bound : (k : ℕ) → nat_abs (get_or (vector i a) k (pos 0)) ≤ max_bound
  value-bound =
      values-bound max_bound a i.objectives
      (λ e m.
      let u : Memᴰ e (entries i) = mathlib.Core.List.Memᴰ.append_left i.rows m in
      sum_bound e.terms a (λ t h. w.terms t (all_terms-member (entries i) e t u h)) (omega (arith, all_terms-le (entries i) e u, w.few_terms)))
