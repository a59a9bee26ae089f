-- The rows of an instance laid out one after the other. Assumes nothing.
use mathlib.Core.Path.{◌≡◌, refl, sym, ap, ◌∙◌, subst}
use mathlib.Core.Bool.{true, false, not}
use mathlib.Core.List.{List, [], ◌∷◌, ◌++◌, append_assoc, append-nil}
use Prim.Native.Nat.{ℕ, ◌+◌, ◌≤◌, ◌<◌}
use native.Mathlib.Omega.{arith}
use lib.Dec.{eqb}
use lib.IntN.{ℤ, nat_abs}
use lib.ListN.{length, set, length-set, length-append, length-map}
use lib.Seq.{take-suc-set}
use Rattle.charging.specs.declared.rows.Term.{Term as HalfTerm}
use Rattle.instance.specs.Limits.{max_terms, max_bound}
use Rattle.instance.specs.Parts.{TermsOk}
use Rattle.instance.specs.Rows.{Entry}
use Rattle.instance.specs.Layout.{all_terms}
use Rattle.instance.specs.Lists.{tabulate}
use Rattle.instance.specs.Tables.{term_at, count_at, entries_in, terms_before, IsInstance}
use Rattle.instance.specs.Meaning.{entry_at}
use Rattle.instance.specs.Structs.{entry_of, EntryIs}
use Rattle.instance.specs.declared.entries.Entry.{Entry as EntryNumbers}
use Rattle.instance.proofs.ListLaws.{tabulate-snoc, tabulate-length}
use Rattle.instance.proofs.TableLaws.{terms_before-step, terms_before-le}
use Rattle.instance.proofs.InstanceLaws.{entry-as, entry-inside}
use Rattle.normal.specs.Halves.{half_of}
use Rattle.normal.specs.Rows.{HalfRow, all_halves, starts_from, Laid}
use Rattle.normal.specs.Grown.{if_wanted, half_row, half_rows_of, half_rows_all, Grown, Rooms}
use Rattle.normal.proofs.GrownLaws.{all_halves-append, wanted-few}

-- ---- half_rows_all

all_append : (xs ys : List Entry) → half_rows_all (xs ++ ys) ≡ half_rows_all xs ++ half_rows_all ys
unfolding half_rows_all
all_append [] ys = refl
all_append (x ∷ xs) ys = ap (λ (l : List HalfRow). half_rows_of x ++ l) (all_append xs ys) ∙ sym (append_assoc (half_rows_of x) (half_rows_all xs) (half_rows_all ys))

pub all_snoc : (xs : List Entry) (e : Entry) → half_rows_all (xs ++ (e ∷ [])) ≡ half_rows_all xs ++ half_rows_of e
unfolding half_rows_all
all_snoc xs e = all_append xs (e ∷ []) ∙ ap (λ (l : List HalfRow). half_rows_all xs ++ l) (append-nil (half_rows_of e))

-- two half rows at most, and each term twice at most
pub row-few : (e : Entry) → (length (half_rows_of e) ≤ 2) × (length (all_halves (half_rows_of e)) ≤ length e.terms + length e.terms)
row-few e =
    let x = if_wanted (not (eqb e.kind 3)) (half_row false e) in
    let y = if_wanted (not (eqb e.kind 2)) (half_row true e) in
    let p = wanted-few (not (eqb e.kind 3)) (half_row false e) in
    let q = wanted-few (not (eqb e.kind 2)) (half_row true e) in
    (omega (arith, length-append x y, p.0, q.0), omega (arith, ap length (all_halves-append x y), length-append (all_halves x) (all_halves y), p.1, q.1, length-map e.terms (half_of false), length-map e.terms (half_of true)))

-- so of all rows
pub all-few : (es : List Entry) → (length (half_rows_all es) ≤ length es + length es) × (length (all_halves (half_rows_all es)) ≤ length (all_terms es) + length (all_terms es))
unfolding half_rows_all all_terms all_halves
all-few [] = (omega arith, omega arith)
all-few (e ∷ es) =
    let r = row-few e in
    let a = all-few es in
    (omega (arith, r.0, a.0, length-append (half_rows_of e) (half_rows_all es)), omega (arith, r.1, a.1, ap length (all_halves-append (half_rows_of e) (half_rows_all es)), length-append (all_halves (half_rows_of e)) (all_halves (half_rows_all es)), length-append e.terms (all_terms es)))

-- ---- the rows so far

pub record Laying (ts rs : List ℤ) (first k : ℕ) (starts₀ starts : List ℕ) (laid₀ laid : List HalfTerm) (needs₀ needs : List ℕ) (halves used : ℕ) : Type 0 where
  pub rows : Laid (half_rows_all (tabulate (entry_at ts rs) first k)) starts laid needs halves used
  pub starts_same : length starts ≡ length starts₀
  pub laid_same : length laid ≡ length laid₀
  pub needs_same : length needs ≡ length needs₀
  pub few_halves : halves ≤ k + k
  pub few_terms : used ≤ terms_before rs (first + k) + terms_before rs (first + k)

pub laying-start : (ts rs : List ℤ) (first : ℕ) (starts : List ℕ) (laid : List HalfTerm) (needs : List ℕ) → 1 ≤ length starts
    → Laying ts rs first 0 (set starts 0 0) (set starts 0 0) laid laid needs needs 0 0
unfolding tabulate half_rows_all all_halves starts_from
laying-start ts rs first starts laid needs h = record {
  rows = record { halves_is = refl; used_is = refl; starts_are = take-suc-set starts 0 0 h; terms_are = refl; needs_are = refl };
  starts_same = refl;
  laid_same = refl;
  needs_same = refl;
  few_halves = omega arith;
  few_terms = omega arith;
}

module _ {ts rs : List ℤ} {first k : ℕ} {starts₀ starts : List ℕ} {laid₀ laid : List HalfTerm} {needs₀ needs : List ℕ} {halves used : ℕ} (l : Laying ts rs first k starts₀ starts laid₀ laid needs₀ needs halves used) (i : IsInstance ts rs) (h : first + k < entries_in rs) where
  -- the next entry's terms come after those before it
  total : terms_before rs (first + k) + nat_abs (count_at rs (first + k)) ≤ max_terms
  total = omega (arith, sym (terms_before-step rs (first + k)), terms_before-le rs (first + k + 1) (entries_in rs) (omega arith), i.few_terms)

  pub laying-room : (count : ℕ) → Rooms starts₀ laid₀ needs₀ (count + count) (max_terms + max_terms) → k < count → (c : ℕ) → c ≡ nat_abs (count_at rs (first + k)) → Rooms starts laid needs (halves + 2) (used + (c + c))
  laying-room count m u c e = record {
    starts_room = omega (arith, m.starts_room, l.starts_same, l.few_halves);
    laid_room = omega (arith, m.laid_room, l.laid_same, l.few_terms, total);
    needs_room = omega (arith, m.needs_room, l.needs_same, l.few_halves);
  }

  pub laying-step : (e : EntryNumbers) → EntryIs rs (first + k) e → {starts' : List ℕ} {laid' : List HalfTerm} {needs' : List ℕ} {halves' used' : ℕ}
      → Grown (half_rows_of (entry_of ts e)) starts starts' laid laid' needs needs' halves used halves' used'
      → Laying ts rs first (k + 1) starts₀ starts' laid₀ laid' needs₀ needs' halves' used'
  laying-step e n {starts'} {laid'} {needs'} {halves'} {used'} g = record {
    rows = subst (λ (hs : List HalfRow). Laid hs starts' laid' needs' halves' used') next (g.more (half_rows_all (tabulate (entry_at ts rs) first k)) l.rows);
    starts_same = g.starts_same ∙ l.starts_same;
    laid_same = g.laid_same ∙ l.laid_same;
    needs_same = g.needs_same ∙ l.needs_same;
    few_halves = omega (arith, g.halves_more, l.few_halves, (row-few (entry_of ts e)).0);
    few_terms = omega (arith, g.used_more, l.few_terms, (row-few (entry_of ts e)).1, tabulate-length (term_at ts) e.first e.count, n.count, ap (terms_before rs) place ∙ terms_before-step rs (first + k));
  }
    where
      place : first + (k + 1) ≡ first + k + 1
      place = omega arith

      next : half_rows_all (tabulate (entry_at ts rs) first k) ++ half_rows_of (entry_of ts e) ≡ half_rows_all (tabulate (entry_at ts rs) first (k + 1))
      next = ap (λ (x : Entry). half_rows_all (tabulate (entry_at ts rs) first k) ++ half_rows_of x) (entry-as ts rs (first + k) e n)
          ∙ sym (all_snoc (tabulate (entry_at ts rs) first k) (entry_at ts rs (first + k)))
          ∙ ap half_rows_all (sym (tabulate-snoc (entry_at ts rs) first k))

-- a store leaves the rooms
pub rooms-set : {starts : List ℕ} {laid : List HalfTerm} {needs : List ℕ} {halves used : ℕ} (i v : ℕ) → Rooms starts laid needs halves used → Rooms (set starts i v) laid needs halves used
rooms-set {starts} i v m = record { starts_room = omega (arith, m.starts_room, length-set starts i v); laid_room = m.laid_room; needs_room = m.needs_room }

-- what laying a row out asks of an entry that was read
module _ {ts rs : List ℤ} (i : IsInstance ts rs) (k : ℕ) (h : k < entries_in rs) (e : EntryNumbers) (n : EntryIs rs k e) where
  pub entry-inside-all : e.first + e.count ≤ max_terms
  entry-inside-all = omega (arith, n.first, n.count, entry-inside i k h, i.few_terms)

  pub entry-terms-ok : TermsOk ts (e.first + e.count)
  entry-terms-ok j l = i.terms j (omega (arith, n.first, n.count, entry-inside i k h))

  pub entry-bound : nat_abs e.bound ≤ max_bound
  entry-bound = subst (λ (z : ℤ). nat_abs z ≤ max_bound) (sym n.bound) (i.used k h).bound
