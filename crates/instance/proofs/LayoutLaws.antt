-- The tables that hold an instance within the limits are an instance, and mean it, whatever lay in them before.
use mathlib.Core.Path.{◌≡◌, sym, ap, ◌∙◌, subst}
use mathlib.Core.Bool.{true, false, ◌||◌}
use mathlib.Core.List.{List, [], ◌++◌, Memᴰ, append-nil}
use Prim.Native.Nat.{ℕ, ◌+◌, ◌-◌, ◌*◌, ◌≤◌, ◌<◌}
use native.Mathlib.Decide.{dec_lt}
use native.Mathlib.Omega.{arith}
use borrow.Author.Tests.{ne_eqb}
use lib.Dec.{T}
use lib.IntN.{ℤ, pos, nat_abs}
use lib.ListN.{length, take, drop, replicate, length-append, get_or-append}
use lib.Seq.{get_or-append-add, take-length}
use lib.Signed.{non_neg}
use Rattle.instance.specs.Limits.{max_entries, max_bound, term_room, row_room}
use Rattle.instance.specs.Lists.{tabulate, run}
use Rattle.instance.specs.Terms.{Term, TermOk, highest}
use Rattle.instance.specs.Rows.{Entry}
use Rattle.instance.specs.Tables.{term_at, kind_at, bound_at, is_kind, is_objective, is_row, objectives_in, rows_in, entries_in, terms_in, terms_before, ZeroFrom, EntryOk, IsInstance}
use Rattle.instance.specs.Meaning.{Instance, entries, terms_at, entry_at, meaning}
use Rattle.instance.specs.Layout.{term_numbers, all_terms, entry_numbers, term_table, row_table, ObjectiveOk, RowOk, Within}
use Rattle.instance.proofs.ListLaws.{run-unique, tabulate-list, tabulate-member}
use Rattle.instance.proofs.TestLaws.{is_kind-pos, or-first, or-next}
use Rattle.instance.proofs.NumberLaws.{term_numbers-length, entry_numbers-length}
use Rattle.instance.proofs.ReadLaws.{filled-room, filled_zero, no_entry, terms-read, laid-at, terms_before-read, entry_read}

-- ---- is_kind
is_kind-not : (n : ℕ) {m : ℕ} {z : ℤ} → z ≡ pos m → (m ≡ n → ⊥) → is_kind n z ≡ false
is_kind-not n {m} e h = ap (is_kind n) e ∙ ne_eqb m n h

-- A kind of 2, 3 or 4 is one of a row.
kind_row : (z : ℤ) (m : ℕ) → z ≡ pos m → 2 ≤ m → m ≤ 4 → (is_kind 2 z || (is_kind 3 z || is_kind 4 z)) ≡ true
kind_row z m e l h = pick (dec_lt m 3) (dec_lt m 4)
  where
    pick : Dec (m < 3) → Dec (m < 4) → (is_kind 2 z || (is_kind 3 z || is_kind 4 z)) ≡ true
    pick (yes a) b = let s : m ≡ 2 = omega arith in sym (or-first (is_kind 3 z || is_kind 4 z) (is_kind-pos 2 z (e ∙ ap pos s)))
    pick (no a) (yes b) =
        let s : m ≡ 3 = omega arith in
        sym (or-next (is_kind-not 2 e (λ q. omega arith))) ∙ sym (or-first (is_kind 4 z) (is_kind-pos 3 z (e ∙ ap pos s)))
    pick (no a) (no b) =
        let s : m ≡ 4 = omega arith in
        sym (or-next (is_kind-not 2 e (λ q. omega arith))) ∙ (sym (or-next (is_kind-not 3 e (λ q. omega arith))) ∙ is_kind-pos 4 z (e ∙ ap pos s))

abbrev instance_of : ℕ → List Entry → List Entry → Instance
instance_of v o r = record { variables = v; objectives = o; rows = r }

module _ {i : Instance} (w : Within i) (ts rs : List ℤ) where
  abbrev es : List Entry
  es = i.objectives ++ i.rows

  abbrev terms' : List ℤ
  terms' = term_table (entries i) ts

  abbrev rows' : List ℤ
  rows' = row_table (entries i) rs

  abbrev more_rows : List ℤ
  more_rows = replicate (row_room - length (entry_numbers 0 es)) (pos 0) ++ drop row_room rs

  abbrev more_terms : List ℤ
  more_terms = replicate (term_room - length (term_numbers (all_terms es))) (pos 0) ++ drop term_room ts

  used : length es ≡ length i.objectives + length i.rows
  used = length-append i.objectives i.rows

  -- ---- the entries that are read
  objectives-read : tabulate (entry_at terms' rows') 0 (length i.objectives) ≡ i.objectives
  objectives-read =
      tabulate-list (entry_at terms' rows') 0 no_entry i.objectives
      (λ k h.
      let e : 0 + k ≡ k = omega arith in
      ap (entry_at terms' rows') e
      ∙ (entry_read es more_rows more_terms k (omega (arith, used)) ∙ get_or-append i.objectives i.rows no_entry k h))

  rows-read : tabulate (entry_at terms' rows') (length i.objectives) (length i.rows) ≡ i.rows
  rows-read =
      tabulate-list (entry_at terms' rows') (length i.objectives) no_entry i.rows
      (λ k h.
      entry_read es more_rows more_terms (length i.objectives + k) (omega (arith, used))
      ∙ get_or-append-add i.objectives i.rows k no_entry)

  objective-ok : (k : ℕ) → k < length i.objectives → ObjectiveOk (entry_at terms' rows' k)
  objective-ok k h =
      let e : 0 + k ≡ k = omega arith in
      subst (λ (j : ℕ). ObjectiveOk (entry_at terms' rows' j)) e
      (w.objectives (entry_at terms' rows' (0 + k))
      (subst (λ (l : List Entry). Memᴰ (entry_at terms' rows' (0 + k)) l) objectives-read (tabulate-member (entry_at terms' rows') 0 (length i.objectives) k h)))

  row_ok : (k : ℕ) → k < length i.rows → RowOk (entry_at terms' rows' (length i.objectives + k))
  row_ok k h =
      w.rows (entry_at terms' rows' (length i.objectives + k))
      (subst (λ (l : List Entry). Memᴰ (entry_at terms' rows' (length i.objectives + k)) l) rows-read
      (tabulate-member (entry_at terms' rows') (length i.objectives) (length i.rows) k h))

  -- ---- the kinds that are read
  kind-read : (k : ℕ) → k < length es → kind_at rows' k ≡ pos (nat_abs (kind_at rows' k))
  kind-read k h = let e = (laid-at es more_rows k h).kind in e ∙ ap pos (sym (ap nat_abs e))

  unused-read : ZeroFrom rows' (length es * 4) row_room
  unused-read = filled_zero row_room (length es * 4) (entry_numbers 0 es) rs (entry_numbers-length 0 es)

  -- After the objectives comes a row or nothing.
  objectives-stop : length i.objectives < max_entries → is_objective rows' (0 + length i.objectives) ≡ false
  objectives-stop h =
      let e : 0 + length i.objectives ≡ length i.objectives + 0 = omega arith in
      ap (is_objective rows') e ∙ pick (dec_lt 0 (length i.rows))
    where
      pick : Dec (0 < length i.rows) → is_objective rows' (length i.objectives + 0) ≡ false
      pick (yes l) = is_kind-not 1 (kind-read (length i.objectives + 0) (omega (arith, used))) (λ q. omega (arith, (row_ok 0 l).kind_low))
      pick (no l) =
          is_kind-not 1 (unused-read ((length i.objectives + 0) * 4) (omega (arith, used)) (omega arith)) (λ q. omega (arith, q))

  objectives-in : objectives_in rows' ≡ length i.objectives
  objectives-in = run-unique (is_objective rows') (record {
    most = omega (arith, w.few_objectives);
    below = λ j h.
        let e : 0 + j ≡ j = omega arith in
        ap (is_objective rows') e ∙ is_kind-pos 1 (kind_at rows' j) (kind-read j (omega (arith, used)) ∙ ap pos (objective-ok j h).kind);
    stop = objectives-stop;
  })

  rows-in : rows_in rows' ≡ length i.rows
  rows-in =
      ap (λ (k : ℕ). run (is_row rows') k (max_entries - k)) objectives-in ∙ run-unique (is_row rows') (record {
        most = omega (arith, w.few_objectives, w.few_rows);
        below = λ j h.
            let k = length i.objectives + j in
            kind_row (kind_at rows' k) (nat_abs (kind_at rows' k)) (kind-read k (omega (arith, used))) (row_ok j h).kind_low (row_ok j h).kind_high;
        stop = λ h.
            ap (λ (z : ℤ). is_kind 2 z || (is_kind 3 z || is_kind 4 z))
            (unused-read ((length i.objectives + length i.rows) * 4) (omega (arith, used)) (omega arith));
      })

  entries-in : entries_in rows' ≡ length es
  entries-in = omega (arith, used, objectives-in, rows-in)

  terms-before : (k : ℕ) → k ≤ length es → terms_before rows' k ≡ length (all_terms (take k es))
  terms-before = terms_before-read es more_rows

  terms-in : terms_in rows' ≡ length (all_terms es)
  terms-in =
      ap (terms_before rows') entries-in
      ∙ (terms-before (length es) (omega arith) ∙ ap (λ (l : List Entry). length (all_terms l)) (take-length es))

  all_read : terms_at terms' 0 (length (all_terms es)) ≡ all_terms es
  all_read = ap (λ (l : List Term). terms_at (term_numbers l ++ more_terms) 0 (length (all_terms es))) (sym (append-nil (all_terms es))) ∙ terms-read [] (all_terms es) [] more_terms

  -- ---- meaning
  pub layout-meaning : meaning terms' rows' ≡ i
  layout-meaning =
      let m = meaning terms' rows' in
      let v : m.variables ≡ i.variables = ap (λ (n : ℕ). highest (terms_at terms' 0 n)) terms-in ∙ (ap highest all_read ∙ sym w.variables) in
      let o : m.objectives ≡ i.objectives = ap (tabulate (entry_at terms' rows') 0) objectives-in ∙ objectives-read in
      let r : m.rows ≡ i.rows =
      ap (λ (k : ℕ). tabulate (entry_at terms' rows') k (rows_in rows')) objectives-in
      ∙ (ap (tabulate (entry_at terms' rows') (length i.objectives)) rows-in ∙ rows-read)
      in
      ap (λ (n : ℕ). instance_of n m.objectives m.rows) v
      ∙ (ap (λ (l : List Entry). instance_of i.variables l m.rows) o ∙ ap (instance_of i.variables i.objectives) r)

  -- ---- IsInstance
  bound-ok : (k : ℕ) → k < length es → nat_abs (bound_at rows' k) ≤ max_bound
  bound-ok k h = pick (dec_lt k (length i.objectives))
    where
      pick : Dec (k < length i.objectives) → nat_abs (bound_at rows' k) ≤ max_bound
      pick (yes l) = omega (arith, ap nat_abs (objective-ok k l).bound)
      pick (no l) =
          let o = length i.objectives in
          let e : o + (k - o) ≡ k = omega arith in
          subst (λ (j : ℕ). nat_abs (bound_at rows' j) ≤ max_bound) e (row_ok (k - o) (omega (arith, used))).bound

  entry-ok : (k : ℕ) → k < length es → EntryOk rows' k
  entry-ok k h = record {
    first = (laid-at es more_rows k h).first ∙ ap pos (sym (terms-before k (omega arith)));
    count = subst (λ (z : ℤ). T (non_neg z)) (sym (laid-at es more_rows k h).count) tt;
    bound = bound-ok k h;
  }

  term-ok : (k : ℕ) → k < length (all_terms es) → TermOk (term_at terms' k)
  term-ok k h =
      let e : 0 + k ≡ k = omega arith in
      subst (λ (j : ℕ). TermOk (term_at terms' j)) e
      (w.terms (term_at terms' (0 + k))
      (subst (λ (l : List Term). Memᴰ (term_at terms' (0 + k)) l) all_read (tabulate-member (term_at terms') 0 (length (all_terms es)) k h)))

  pub layout-instance : IsInstance terms' rows'
  layout-instance = record {
    terms_room = filled-room term_room (term_numbers (all_terms es)) ts;
    rows_room = filled-room row_room (entry_numbers 0 es) rs;
    some_objective = omega (arith, objectives-in, w.some_objective);
    few_objectives = omega (arith, objectives-in, w.few_objectives);
    few_rows = omega (arith, rows-in, w.few_rows);
    unused = subst (λ (n : ℕ). ZeroFrom rows' (n * 4) row_room) (sym entries-in) unused-read;
    used = λ k h. entry-ok k (omega (arith, entries-in));
    few_terms = omega (arith, terms-in, w.few_terms);
    no_bound = λ k h. (objective-ok k (omega (arith, objectives-in))).bound;
    terms = λ k h. term-ok k (omega (arith, terms-in));
    rest = subst (λ (n : ℕ). ZeroFrom terms' (n * 2) term_room) (sym terms-in)
        (filled_zero term_room (length (all_terms es) * 2) (term_numbers (all_terms es)) ts (term_numbers-length (all_terms es)));
  }
