-- Laws of the first unmet row: along a table's entries, and of all rows.
use mathlib.Core.Path.{◌≡◌, refl, sym, ap, ◌∙◌}
use mathlib.Core.Bool.{Bool, true, false, cond}
use mathlib.Core.List.Memᴰ
use mathlib.Core.List.{List, [], ◌∷◌, Memᴰ}
use mathlib.Core.Logic.{⊎_elim}
use Prim.Native.Nat.{ℕ, suc, ◌+◌, ◌-◌, ◌^◌, ◌≤◌, ◌<◌}
use native.Mathlib.Omega.{arith}
use Rattle.instance.specs.Lists.{tabulate}
use Rattle.instance.specs.Rows.{Entry, holds}
use Rattle.instance.specs.Meaning.{Instance, Feasible}
use Rattle.instance.proofs.ListLaws.{tabulate-same}
use Rattle.judge.specs.Judging.{unmet_from, first_unmet}

-- ---- unmet_from
unmet-holds : (k : ℕ) (e : Entry) (es : List Entry) (a : ℕ) → holds e a ≡ true → unmet_from k (e ∷ es) a ≡ unmet_from (suc k) es a
unfolding unmet_from
unmet-holds k e es a h = ap (λ (t : Bool). cond t (unmet_from (suc k) es a) k) h

unmet-breaks : (k : ℕ) (e : Entry) (es : List Entry) (a : ℕ) → holds e a ≡ false → unmet_from k (e ∷ es) a ≡ k
unfolding unmet_from
unmet-breaks k e es a h = ap (λ (t : Bool). cond t (unmet_from (suc k) es a) k) h

-- What is left to look at after k of the `count` entries from `first` on.
module _ (f : ℕ → Entry) (first count a : ℕ) where
  abbrev pub unmet_left : ℕ → ℕ
  unmet_left k = unmet_from (k + 1) (tabulate f (first + k) (count - k)) a

  left-cons : (k : ℕ) → k < count → unmet_left k ≡ unmet_from (k + 1) (f (first + k) ∷ tabulate f (suc (first + k)) (count - (k + 1))) a
  unfolding tabulate
  left-cons k h =
      let e : count - k ≡ suc (count - (k + 1)) = omega arith in
      ap (λ (n : ℕ). unmet_from (k + 1) (tabulate f (first + k) n) a) e

  pub left-start : first_unmet (tabulate f first count) a ≡ unmet_left 0
  left-start = ap (λ (l : List Entry). unmet_from 1 l a) (tabulate-same f first (first + 0) count (count - 0) (omega arith) (omega arith))

  pub left-next : (k : ℕ) → k < count → holds (f (first + k)) a ≡ true → unmet_left k ≡ unmet_left (k + 1)
  left-next k h t =
      let e : suc (k + 1) ≡ (k + 1) + 1 = omega arith in
      left-cons k h
      ∙ (unmet-holds (k + 1) (f (first + k)) (tabulate f (suc (first + k)) (count - (k + 1))) a t
      ∙ (ap (λ (n : ℕ). unmet_from n (tabulate f (suc (first + k)) (count - (k + 1))) a) e
      ∙ ap (λ (l : List Entry). unmet_from ((k + 1) + 1) l a)
      (tabulate-same f (suc (first + k)) (first + (k + 1)) (count - (k + 1)) (count - (k + 1)) (omega arith) refl)))

  pub left_here : (k : ℕ) → k < count → holds (f (first + k)) a ≡ false → unmet_left k ≡ k + 1
  left_here k h t = left-cons k h ∙ unmet-breaks (k + 1) (f (first + k)) (tabulate f (suc (first + k)) (count - (k + 1))) a t

  pub left-none : (k : ℕ) → count ≤ k → unmet_left k ≡ 0
  unfolding tabulate unmet_from
  left-none k h =
      let e : count - k ≡ 0 = omega arith in
      ap (λ (n : ℕ). unmet_from (k + 1) (tabulate f (first + k) n) a) e

-- ---- all rows
-- No row is unmet exactly where all hold.
pub unmet-all : (k : ℕ) (es : List Entry) (a : ℕ) → ((e : Entry) → Memᴰ e es → holds e a ≡ true) → unmet_from k es a ≡ 0
unfolding unmet_from
unmet-all k [] a h = refl
unmet-all k (e ∷ es) a h = unmet-holds k e es a (h e (Memᴰ.head refl)) ∙ unmet-all (suc k) es a (λ x m. h x (Memᴰ.tail m))

pub all-met : (k : ℕ) (es : List Entry) (a : ℕ) → 1 ≤ k → unmet_from k es a ≡ 0 → (e : Entry) → Memᴰ e es → holds e a ≡ true
all-met k [] a l z e m = absurd (Memᴰ.not-nil m)
all-met k (x ∷ xs) a l z e m = pick (holds x a) refl (all-met (suc k) xs a (omega arith))
  where
    pick : (b : Bool) → holds x a ≡ b → (unmet_from (suc k) xs a ≡ 0 → (y : Entry) → Memᴰ y xs → holds y a ≡ true) → holds e a ≡ true
    pick true t rest =
        ⊎_elim (λ s. ap (λ (y : Entry). holds y a) s ∙ t) (λ n. rest (sym (unmet-holds k x xs a t) ∙ z) e n) (Memᴰ.cases_cons m)
    pick false t rest = absurd (omega (arith, sym (unmet-breaks k x xs a t) ∙ z))

module _ (i : Instance) (a : ℕ) where
  pub feasible-unmet : Feasible i a → first_unmet i.rows a ≡ 0
  feasible-unmet f = unmet-all 1 i.rows a f.rows_hold

  pub unmet-feasible : a < 2 ^ i.variables → first_unmet i.rows a ≡ 0 → Feasible i a
  unmet-feasible b z = record { bits = b; rows_hold = all-met 1 i.rows a (omega arith) z }
