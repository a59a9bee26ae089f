-- What tables that are an instance give: entries that can be read, terms that lie in the table and are in range, sums that fit.
use mathlib.Core.Path.{◌≡◌, refl, sym, ap, ◌∙◌, subst}
use mathlib.Core.Bool.{Bool, true, false, ◌||◌}
use mathlib.Core.List.{List, Memᴰ}
use Prim.Native.Nat.{ℕ, ◌+◌, ◌-◌, ◌*◌, ◌≤◌, ◌<◌}
use native.Mathlib.Decide.{dec_lt}
use native.Mathlib.Omega.{arith}
use lib.Dec.{T}
use lib.IntN.{ℤ, pos, nat_abs}
use lib.ListN.{length}
use lib.Signed.{non_neg}
use mir.Syntax.{w64}
use mir.Val.{SFits}
use Rattle.instance.specs.Limits.{max_entries, max_coef, max_variable, max_bound}
use Rattle.instance.specs.Terms.{Term, TermOk, sum}
use Rattle.instance.specs.Tables.{term_at, kind_at, first_at, count_at, is_kind, is_objective, is_row, objectives_in, entries_in, terms_in, terms_before, IsInstance}
use Rattle.instance.specs.Meaning.{terms_at, entry_at, meaning}
use Rattle.instance.specs.Structs.{entry_of, EntryFine, EntryIs}
use Rattle.instance.specs.declared.entries.Entry.{Entry as EntryNumbers}
use Rattle.instance.proofs.TestLaws.{is_kind-true}
use Rattle.instance.proofs.ListLaws.{run_is, tabulate-same, tabulate-length, tabulate-each, tabulate-member}
use Rattle.instance.proofs.TableLaws.{terms_before-step, terms_before-le}
use Rattle.instance.proofs.SumLaws.{highest-le, highest-member, sum-le, sum_bound, sum_fits}

-- ---- kinds
-- An entry before the last objective has kind 1.
pub objective-kind : (rs : List ℤ) (k : ℕ) → k < objectives_in rs → kind_at rs k ≡ pos 1
objective-kind rs k h =
    let e : k ≡ 0 + k = omega arith in
    is_kind-true 1 (kind_at rs k) (ap (is_objective rs) e ∙ (run_is (is_objective rs) 0 max_entries).below k h)

-- A kind of 2, 3 or 4.
pub record RowKind (z : ℤ) : Type 0 where
  pub natural : T (non_neg z)
  pub low : 2 ≤ nat_abs z
  pub high : nat_abs z ≤ 4

row_kind-pos : (z : ℤ) (n : ℕ) → z ≡ pos n → 2 ≤ n → n ≤ 4 → RowKind z
row_kind-pos z n e l h = subst RowKind (sym e) (record { natural = tt; low = l; high = h })

pub is_row-kind : (rs : List ℤ) (k : ℕ) → is_row rs k ≡ true → RowKind (kind_at rs k)
is_row-kind rs k e = first (is_kind 2 (kind_at rs k)) refl e
  where
    third : (b : Bool) → is_kind 4 (kind_at rs k) ≡ b → b ≡ true → RowKind (kind_at rs k)
    third true f g = row_kind-pos (kind_at rs k) 4 (is_kind-true 4 (kind_at rs k) f) (omega arith) (omega arith)
    third false f g = absurd (subst T (sym g) tt)

    second : (b : Bool) → is_kind 3 (kind_at rs k) ≡ b → (b || is_kind 4 (kind_at rs k)) ≡ true → RowKind (kind_at rs k)
    second true f g = row_kind-pos (kind_at rs k) 3 (is_kind-true 3 (kind_at rs k) f) (omega arith) (omega arith)
    second false f g = third (is_kind 4 (kind_at rs k)) refl g

    first : (b : Bool) → is_kind 2 (kind_at rs k) ≡ b → (b || (is_kind 3 (kind_at rs k) || is_kind 4 (kind_at rs k))) ≡ true → RowKind (kind_at rs k)
    first true f g = row_kind-pos (kind_at rs k) 2 (is_kind-true 2 (kind_at rs k) f) (omega arith) (omega arith)
    first false f g = second (is_kind 3 (kind_at rs k)) refl g

-- An entry after the last objective has the kind of a row.
pub row-kind : (rs : List ℤ) (k : ℕ) → objectives_in rs ≤ k → k < entries_in rs → RowKind (kind_at rs k)
row-kind rs k l h =
    let e : k ≡ objectives_in rs + (k - objectives_in rs) = omega arith in
    is_row-kind rs k
    (ap (is_row rs) e ∙ (run_is (is_row rs) (objectives_in rs) (max_entries - objectives_in rs)).below (k - objectives_in rs) (omega arith))

pub kind-natural : (rs : List ℤ) (k : ℕ) → k < entries_in rs → T (non_neg (kind_at rs k))
kind-natural rs k h = pick (dec_lt k (objectives_in rs))
  where
    pick : Dec (k < objectives_in rs) → T (non_neg (kind_at rs k))
    pick (yes l) = subst (λ (z : ℤ). T (non_neg z)) (sym (objective-kind rs k l)) tt
    pick (no l) = (row-kind rs k (omega arith) h).natural

-- ---- Entry::at
-- What is read of entry k are the numbers of its meaning.
pub entry-terms : (ts rs : List ℤ) (k : ℕ) {e : EntryNumbers} → EntryIs rs k e → terms_at ts e.first e.count ≡ (entry_at ts rs k).terms
entry-terms ts rs k {e} h = tabulate-same (term_at ts) e.first (nat_abs (first_at rs k)) e.count (nat_abs (count_at rs k)) h.first h.count

-- What is read of entry k is its meaning.
pub entry-as : (ts rs : List ℤ) (k : ℕ) (e : EntryNumbers) → EntryIs rs k e → entry_of ts e ≡ entry_at ts rs k
entry-as ts rs k e h = λ i. record { kind = h.kind i; terms = entry-terms ts rs k h i; bound = h.bound i }

module _ {ts rs : List ℤ} (i : IsInstance ts rs) where
  -- ---- entries
  -- `Entry::at` can read each used entry.
  pub entry-fine : (k : ℕ) → k < entries_in rs → EntryFine rs k
  entry-fine k h = record {
    inside = omega (arith, i.few_objectives, i.few_rows, i.rows_room);
    kind = kind-natural rs k h;
    first = subst (λ (z : ℤ). T (non_neg z)) (sym (i.used k h).first) tt;
    count = (i.used k h).count;
  }

  -- The terms of a used entry lie within the total.
  pub entry-inside : (k : ℕ) → k < entries_in rs → nat_abs (first_at rs k) + nat_abs (count_at rs k) ≤ terms_in rs
  entry-inside k h =
      let e : nat_abs (first_at rs k) ≡ terms_before rs k = ap nat_abs (i.used k h).first in
      omega (arith, terms_before-step rs k, terms_before-le rs (k + 1) (entries_in rs) (omega arith))

  -- ---- terms
  -- `Term::at` can read each term within the total.
  pub term-inside : (k : ℕ) → k < terms_in rs → k * 2 + 1 < length ts
  term-inside k h = omega (arith, i.few_terms, i.terms_room)

  pub terms-ok : (first n : ℕ) → first + n ≤ terms_in rs → (t : Term) → Memᴰ t (terms_at ts first n) → TermOk t
  terms-ok first n h = tabulate-each (term_at ts) TermOk first n (λ k l. i.terms (first + k) (omega arith))

  -- The number of variables is at most 64, and no term within the total names a higher variable.
  pub variables-le : (meaning ts rs).variables ≤ max_variable
  variables-le = highest-le (terms_at ts 0 (terms_in rs)) (terms-ok 0 (terms_in rs) (omega arith))

  pub variable-le : (k : ℕ) → k < terms_in rs → nat_abs (term_at ts k).lit ≤ (meaning ts rs).variables
  variable-le k h =
      let e : 0 + k ≡ k = omega arith in
      subst (λ (j : ℕ). nat_abs (term_at ts j).lit ≤ (meaning ts rs).variables) e
      (highest-member (terms_at ts 0 (terms_in rs)) (term_at ts (0 + k)) (tabulate-member (term_at ts) 0 (terms_in rs) k h))

  -- ---- sums
  -- The sum of n terms within the total is at most n times the largest coefficient, so within the largest bound, and fits.
  pub terms-sum-le : (first n a : ℕ) → first + n ≤ terms_in rs → nat_abs (sum (terms_at ts first n) a) ≤ n * max_coef
  terms-sum-le first n a h =
      subst (λ (m : ℕ). nat_abs (sum (terms_at ts first n) a) ≤ m * max_coef) (tabulate-length (term_at ts) first n)
      (sum-le (terms_at ts first n) a (terms-ok first n h))

  pub terms-sum-bound : (first n a : ℕ) → first + n ≤ terms_in rs → nat_abs (sum (terms_at ts first n) a) ≤ max_bound
  terms-sum-bound first n a h =
      sum_bound (terms_at ts first n) a (terms-ok first n h) (omega (arith, tabulate-length (term_at ts) first n, i.few_terms))

  pub terms-sum-fits : (first n a : ℕ) → first + n ≤ terms_in rs → SFits w64 (sum (terms_at ts first n) a)
  terms-sum-fits first n a h =
      sum_fits (terms_at ts first n) a (terms-ok first n h) (omega (arith, tabulate-length (term_at ts) first n, i.few_terms))

  pub entry-sum-bound : (k a : ℕ) → k < entries_in rs → nat_abs (sum (entry_at ts rs k).terms a) ≤ max_bound
  entry-sum-bound k a h = terms-sum-bound (nat_abs (first_at rs k)) (nat_abs (count_at rs k)) a (entry-inside k h)

  pub entry-sum-fits : (k a : ℕ) → k < entries_in rs → SFits w64 (sum (entry_at ts rs k).terms a)
  entry-sum-fits k a h = terms-sum-fits (nat_abs (first_at rs k)) (nat_abs (count_at rs k)) a (entry-inside k h)
