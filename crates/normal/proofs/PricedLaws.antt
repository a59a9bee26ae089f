-- Objectives laid out one after the other. Assumes nothing.
use mathlib.Core.Path.{◌≡◌, sym, ap, ◌∙◌, subst}
use mathlib.Core.Logic.{⊎_elim}
use mathlib.Core.Bool.{false}
use mathlib.Core.List.{List}
use Prim.Native.Nat.{ℕ, ◌+◌, ◌-◌, ◌*◌, ◌≤◌, ◌<◌}
use native.Mathlib.Nat.{mul-le-mul_right, suc-mul}
use native.Mathlib.Omega.{arith}
use lib.IntN.{ℤ, pos, nat_abs, ◌+ℤ◌}
use lib.ListN.{length, drop}
use borrow.Rule.Slice.PartMut.{put_mid}
use Rattle.std.specs.List.{slice_range}
use Rattle.std.proofs.lemmas.Slice.{take-put_mid_below, between-put_mid, between_is}
use Rattle.charging.specs.declared.rows.Cost.{Cost as CostOf}
use Rattle.charging.specs.Rows.{cost, bit}
use Rattle.charging.proofs.SumLaws.{eq-or}
use Rattle.instance.specs.Limits.{max_bound, max_terms}
use Rattle.instance.specs.Tables.{term_at, objectives_in, IsInstance}
use Rattle.instance.specs.Meaning.{meaning}
use Rattle.instance.specs.Structs.{EntryIs}
use Rattle.instance.specs.Terms.{Term, TermOk, sum}
use Rattle.instance.specs.declared.entries.Entry.{Entry as EntryNumbers}
use Rattle.instance.proofs.InstanceLaws.{entry-inside, entry-terms, variable-le}
use Rattle.normal.specs.declared.Half.{Half}
use Rattle.normal.specs.Halves.{half_of, lost_all}
use Rattle.normal.specs.Rows.{halves_at}
use Rattle.normal.specs.declared.costs.Sides.{Sides as SidesOf}
use Rattle.normal.specs.Costs.{base_of, Spread, Settled, value_of, Priced}
use Rattle.normal.proofs.LayLaws.{entry-inside-all, entry-terms-ok}
use Rattle.normal.proofs.TableLaws.{HalfOk}
use Rattle.normal.proofs.CostLaws.{half-fits}
use Rattle.normal.proofs.SettleLaws.{settled-small, settled-costs}
use Rattle.normal.proofs.ObjectiveLaws.{objective-cost, cost-le, value-le}

-- ---- Priced

-- what an objective's entry asks of its terms
module _ {ts rs : List ℤ} (is : IsInstance ts rs) (i : ℕ) (h : i < objectives_in rs) (e : EntryNumbers) (n : EntryIs rs i e) where
  objective-names : (k : ℕ) → k < e.first + e.count → nat_abs (term_at ts k).lit ≤ (meaning ts rs).variables
  objective-names k l = variable-le is k (omega (arith, n.first, n.count, entry-inside is i (omega arith)))

  pub objective-inside : e.first + e.count ≤ max_terms
  objective-inside = entry-inside-all is i (omega arith) e n

  pub objective-term : (k : ℕ) → k < e.first + e.count → TermOk (term_at ts k)
  objective-term = entry-terms-ok is i (omega arith) e n

  -- a term of it that was read, as a half
  pub objective-half : {m : ℕ} → m ≡ (meaning ts rs).variables → (k : ℕ) → k < e.first + e.count → {f : Half} {t : Term} → f ≡ half_of false t → t ≡ term_at ts k → HalfOk m f
  objective-half {m} v k l p q = half-fits m p q (objective-term k l) (subst (λ (u : ℕ). nat_abs (term_at ts k).lit ≤ u) (sym v) (objective-names k l))

module _ (ts rs : List ℤ) (i n : ℕ) (e : EntryNumbers) (m : EntryIs rs i e) (few : e.count ≤ max_terms)
    {sides : List SidesOf} {costs : List CostOf} (p : Spread ts e.first e.count n sides) (s : Settled n sides costs) where
  value_as : (a : ℕ) → pos (cost costs (bit a) + base_of n sides) ≡ value_of ts rs i a +ℤ pos (lost_all (halves_at ts e.first e.count false))
  value_as a = objective-cost ts e.first e.count n p s a ∙ ap (λ (l : List Term). sum l a +ℤ pos (lost_all (halves_at ts e.first e.count false))) (entry-terms ts rs i m)

  pub priced-one : Priced ts rs n i costs
  priced-one = record {
    are = settled-costs s (λ v b. omega (arith, p.small v b));
    small = settled-small max_bound s (λ v b. omega (arith, p.small v b));
    cost_le = λ a b l. cost-le (base_of n sides) (lost_all (halves_at ts e.first e.count false)) (cost costs (bit a)) (cost costs (bit b)) (value_as a) (value_as b) l;
    value_le = λ a b l. value-le (base_of n sides) (lost_all (halves_at ts e.first e.count false)) (cost costs (bit a)) (cost costs (bit b)) (value_as a) (value_as b) l;
  }

-- ---- one list after the other

-- an earlier part ends where a later one begins, at most
pub earlier-below : (i j n : ℕ) → i < j → i * n + n ≤ j * n
earlier-below i j n h = omega (arith, mul-le-mul_right n h, suc-mul i n)

-- what is put in at place i stands there, and the parts before it are as they were
module _ {A : Type 0} (n : ℕ) (xs ys : List A) (i : ℕ) (l : i * n + n ≤ length xs) (m : length ys ≡ n) where
  pub part_own : slice_range (put_mid (i * n) (i * n + n - i * n) xs ys) (i * n) (i * n + n) ≡ ys
  part_own = between-put_mid (i * n) (i * n + n - i * n) xs ys (i * n + n) (omega arith) (omega arith)

  pub part_earlier : (j : ℕ) → j < i → slice_range (put_mid (i * n) (i * n + n - i * n) xs ys) (j * n) (j * n + n) ≡ slice_range xs (j * n) (j * n + n)
  part_earlier j h =
      between_is (put_mid (i * n) (i * n + n - i * n) xs ys) (j * n) (j * n + n)
      ∙ ap (drop (j * n)) (take-put_mid_below (i * n) (i * n + n - i * n) xs ys (j * n + n) (earlier-below j i n h) (omega arith)) ∙ sym (between_is xs (j * n) (j * n + n))

-- one part more
pub parts_more : {A : Type 0} (P : ℕ → List A → Type 0) (n : ℕ) (xs ys : List A) (i : ℕ) → i * n + n ≤ length xs → length ys ≡ n → ((j : ℕ) → j < i → P j (slice_range xs (j * n) (j * n + n))) → P i ys
    → (j : ℕ) → j < i + 1 → P j (slice_range (put_mid (i * n) (i * n + n - i * n) xs ys) (j * n) (j * n + n))
parts_more {A} P n xs ys i l m f p j h = ⊎_elim
    (λ e. subst (λ (k : ℕ). P k (slice_range (put_mid (i * n) (i * n + n - i * n) xs ys) (k * n) (k * n + n))) (sym e) (subst (P i) (sym (part_own n xs ys i l m)) p))
    (λ e. subst (P j) (sym (part_earlier n xs ys i l m j (omega arith))) (f j (omega arith)))
    (eq-or j i)
