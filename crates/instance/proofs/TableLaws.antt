-- Laws of the tables' numbers: what the parts of the check tell, and what follows of an instance.
use mathlib.Core.Path.{◌≡◌, refl, sym, ap, ◌∙◌, subst}
use mathlib.Core.List.{List}
use Prim.Native.Nat.{ℕ, zero, suc, ◌+◌, ◌-◌, ◌≤◌, ◌<◌}
use native.Mathlib.Decide.{dec_lt}
use native.Mathlib.Omega.{arith}
use borrow.Author.Count.{below_more}
use lib.IntN.{ℤ, pos, nat_abs}
use lib.ListN.{get_or, length}
use Rattle.std.specs.Prelude.{All, slice_range}
use Rattle.std.proofs.lemmas.List.{get_or_default}
use Rattle.std.proofs.lemmas.List.Edits.{get_or-between, length-between}
use native.Mathlib.Numerals.{add-one}
use Rattle.instance.specs.Limits.{max_entries}
use Rattle.instance.specs.Lists.{run}
use Rattle.instance.specs.Tables.{ZeroFrom, EntryOk, terms_before, count_at, is_row, objectives_in, rows_in, entries_in}
use Rattle.instance.specs.Parts.{EntriesOk, EntryPlaced}

-- ---- ZeroFrom
pub zero_more : (xs : List ℤ) {first n : ℕ} → ZeroFrom xs first n → get_or xs n (pos 0) ≡ pos 0 → ZeroFrom xs first (n + 1)
zero_more xs {first} {n} z e i h l = pick (dec_lt i n)
  where
    pick : Dec (i < n) → get_or xs i (pos 0) ≡ pos 0
    pick (yes k) = z i h k
    pick (no k) = let s : i ≡ n = omega arith in ap (λ (j : ℕ). get_or xs j (pos 0)) s ∙ e

-- ---- terms_before
pub terms_before-zero : (rs : List ℤ) → terms_before rs 0 ≡ 0
unfolding terms_before
terms_before-zero rs = refl

pub terms_before-step : (rs : List ℤ) (k : ℕ) → terms_before rs (k + 1) ≡ terms_before rs k + nat_abs (count_at rs k)
unfolding terms_before
terms_before-step rs k = ap (terms_before rs) (add-one k)

pub terms_before-le : (rs : List ℤ) (j n : ℕ) → j ≤ n → terms_before rs j ≤ terms_before rs n
unfolding terms_before
terms_before-le rs j zero h = let e : j ≡ zero = omega arith in subst (λ (i : ℕ). terms_before rs i ≤ terms_before rs zero) (sym e) (omega arith)
terms_before-le rs j (suc n) h = pick (dec_lt n j) (terms_before-le rs j n)
  where
    pick : Dec (n < j) → (j ≤ n → terms_before rs j ≤ terms_before rs n) → terms_before rs j ≤ terms_before rs (suc n)
    pick (yes l) f = let e : j ≡ suc n = omega arith in subst (λ (i : ℕ). terms_before rs i ≤ terms_before rs (suc n)) (sym e) (omega arith)
    pick (no l) f = let r : terms_before rs j ≤ terms_before rs n = f (omega arith) in omega arith

-- ---- EntriesOk
pub entries_none : (rs : List ℤ) → EntriesOk rs 0
unfolding terms_before
entries_none rs = record { used = λ k h. absurd (omega arith); few_terms = omega arith }

-- One more entry that is placed after the others.
pub entries-more : {rs : List ℤ} {k : ℕ} → EntriesOk rs k → EntryPlaced rs k (terms_before rs k) → EntriesOk rs (k + 1)
entries-more {rs} {k} o p = record {
  used = below_more (EntryOk rs) k o.used (record { first = p.first; count = p.count.natural; bound = p.bound });
  few_terms = omega (arith, terms_before-step rs k, o.few_terms, p.count.small);
}

-- Each entry of entries that are as they should be is placed.
pub entries-placed : {rs : List ℤ} {n : ℕ} → EntriesOk rs n → (k : ℕ) → k < n → EntryPlaced rs k (terms_before rs k)
entries-placed {rs} {n} o k h = record {
  first = (o.used k h).first;
  count = record { natural = (o.used k h).count; small = omega (arith, terms_before-step rs k, terms_before-le rs (k + 1) n (omega arith), o.few_terms) };
  bound = (o.used k h).bound;
}

-- ---- IsInstance
-- The number of rows that is counted from the last objective on.
pub rows_in-from : (rs : List ℤ) (m r : ℕ) → m ≡ objectives_in rs → r ≡ run (is_row rs) m (max_entries - m) → r ≡ rows_in rs
rows_in-from rs m r e h = h ∙ ap (λ (k : ℕ). run (is_row rs) k (max_entries - k)) e

-- All entries, where the rows are counted from the last objective on.
pub entries_in-from : (rs : List ℤ) (m r : ℕ) → m ≡ objectives_in rs → r ≡ run (is_row rs) m (max_entries - m) → m + r ≡ entries_in rs
entries_in-from rs m r e h = ap (λ (n : ℕ). n + r) e ∙ ap (λ (n : ℕ). objectives_in rs + n) (rows_in-from rs m r e h)

-- ---- a part that is zero
-- All numbers of the part from a up to b are 0, exactly where they are in the table.
pub part-zero : (xs : List ℤ) (a b : ℕ) → b ≤ length xs → All (λ (z : ℤ). z ≡ pos 0) (slice_range xs a b) → ZeroFrom xs a b
part-zero xs a b r h i l m =
    let e : a + (i - a) ≡ i = omega arith in
    ap (λ (j : ℕ). get_or xs j (pos 0)) (sym e)
    ∙ sym (get_or-between xs a b (i - a) (pos 0) (omega arith))
    ∙ h (i - a) (pos 0) (omega (arith, length-between xs a b r))

pub zero-part : (xs : List ℤ) (a b : ℕ) → b ≤ length xs → ZeroFrom xs a b → All (λ (z : ℤ). z ≡ pos 0) (slice_range xs a b)
zero-part xs a b r h k d l =
    let n : length (slice_range xs a b) ≡ b - a = length-between xs a b r in
    get_or-between xs a b k d (omega arith)
    ∙ get_or_default xs (a + k) d (pos 0) (omega arith)
    ∙ h (a + k) (omega arith) (omega arith)
