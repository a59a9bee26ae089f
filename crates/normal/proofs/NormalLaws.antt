-- The runs that hold the half rows and the objectives are normal tables of the instance. Assumes nothing.
use mathlib.Core.Path.{◌≡◌, sym, ap, ap₂, subst}
use mathlib.Core.List.{List, map, Memᴰ}
use Prim.Native.Nat.{ℕ, ◌+◌, ◌^◌, ◌≤◌, ◌<◌}
use native.Mathlib.Omega.{arith}
use lib.IntN.{ℤ, nat_abs}
use lib.ListN.{length, take, length-append}
use Rattle.charging.specs.declared.rows.Term.{Term as HalfTerm}
use Rattle.charging.specs.declared.rows.Cost.{Cost}
use Rattle.charging.specs.declared.rows.Rows.{Rows}
use Rattle.charging.specs.Rows.{bit, weight, Table}
use Rattle.charging.specs.Meets.{Meets}
use Rattle.charging.proofs.TableLaws.{left-from}
use Rattle.instance.specs.Limits.{max_coef, max_terms, max_rows}
use Rattle.instance.specs.Terms.{Term, TermOk}
use Rattle.instance.specs.Lists.{tabulate}
use Rattle.instance.specs.Layout.{all_terms, Within}
use Rattle.instance.specs.Tables.{objectives_in, rows_in, IsInstance}
use Rattle.instance.specs.Meaning.{meaning, entries, entry_at}
use Rattle.instance.proofs.NumberLaws.{all_terms-append}
use Rattle.instance.proofs.SumLaws.{highest-member}
use Rattle.instance.proofs.InstanceLaws.{variables-le}
use Rattle.instance.proofs.MeaningLaws.{instance-within}
use Rattle.normal.specs.Rows.{HalfRow, terms_of, all_halves, starts_from, Laid}
use Rattle.normal.specs.Grown.{half_rows_all}
use Rattle.normal.specs.Costs.{Ordered, OrderedAll, Priced, PricedAll}
use Rattle.normal.specs.Normal.{RowsHold, InOrder, Normal}
use Rattle.normal.proofs.MeetLaws.{Kinds, MeetsAt, meets-all, all-meets, hold-met, met-hold}
use Rattle.normal.proofs.TableLaws.{HalfOk, rows_ok, rows-table, weights-coef}
use Rattle.normal.proofs.LayLaws.{all-few}

-- ---- Meets, by the places of the terms among all

module _ (rows : Rows) (x : ℕ → ℕ) where
  pub meets-at : Meets rows x → MeetsAt rows.starts.now rows.terms.now rows.needs.now x
  meets-at m h l = omega (arith, m h l, left-from rows x h l)

  pub at-meets : MeetsAt rows.starts.now rows.terms.now rows.needs.now x → Meets rows x
  at-meets m h l = omega (arith, m h l, left-from rows x h l)

-- what holds of three lists holds of lists equal to them
three : (P : List ℕ → List HalfTerm → List ℕ → Type 0) {a a' : List ℕ} {b b' : List HalfTerm} {c c' : List ℕ} → a ≡ a' → b ≡ b' → c ≡ c' → P a' b' c' → P a b c
three P {a} {a'} {b} {b'} {c} {c'} p q r h =
    subst (λ (x : List ℕ). P x b c) (sym p) (subst (λ (x : List HalfTerm). P a' x c) (sym q) (subst (λ (x : List ℕ). P a' b' x) (sym r) h))

-- ---- rows

module _ {ts rs : List ℤ} (is : IsInstance ts rs) where
  row_terms : (t : Term) → Memᴰ t (all_terms (meaning ts rs).rows) → TermOk t × (nat_abs t.lit ≤ (meaning ts rs).variables)
  row_terms t m =
      let w : Within (meaning ts rs) = instance-within is in
      let u : Memᴰ t (all_terms (entries (meaning ts rs))) = subst (Memᴰ t) (sym (all_terms-append (meaning ts rs).objectives (meaning ts rs).rows)) (mathlib.Core.List.Memᴰ.append_right (all_terms (meaning ts rs).objectives) m) in
      (w.terms t u, subst (λ (k : ℕ). nat_abs t.lit ≤ k) (sym w.variables) (highest-member (all_terms (entries (meaning ts rs))) t u))

  kinds : Kinds (meaning ts rs).rows
  kinds e m = (((instance-within is).rows e m).kind_low, ((instance-within is).rows e m).kind_high)

  module _ {hs : List HalfRow} (all : hs ≡ half_rows_all (meaning ts rs).rows) {starts : List ℕ} {laid : List HalfTerm} {needs : List ℕ} {halves used : ℕ} (l : Laid hs starts laid needs halves used) where
    -- what holds of the half rows' lists holds of what is filled of the runs
    rows_are : (P : List ℕ → List HalfTerm → List ℕ → Type 0) → P (starts_from 0 hs) (terms_of (all_halves hs)) (map (λ r. r.need) hs) → P (take (halves + 1) starts) (take used laid) (take halves needs)
    rows_are P = three P l.starts_are l.terms_are l.needs_are

    halves_ok : (h : _) → Memᴰ h (all_halves hs) → HalfOk (meaning ts rs).variables h
    halves_ok h m = rows_ok (meaning ts rs).variables (meaning ts rs).rows row_terms h (subst (λ (x : List HalfRow). Memᴰ h (all_halves x)) all m)

    pub laid-table : halves ≤ 2 ^ 16 → used ≤ 2 ^ 24 → Table (meaning ts rs).variables (take (halves + 1) starts) (take used laid) (take halves needs)
    laid-table few short =
        rows_are (Table (meaning ts rs).variables)
        (rows-table (meaning ts rs).variables hs halves_ok (variables-le is) (omega (arith, l.used_is)) (omega (arith, l.halves_is)))

    -- no weight is more than a coefficient
    pub laid-weights : (j : ℕ) → j < length (take used laid) → weight (take used laid) j ≤ max_coef
    laid-weights = rows_are (λ s w n. (j : ℕ) → j < length w → weight w j ≤ max_coef) (weights-coef (meaning ts rs).variables (all_halves hs) halves_ok)

    pub laid-hold : (a : ℕ) → MeetsAt (take (halves + 1) starts) (take used laid) (take halves needs) (bit a) → RowsHold ts rs a
    laid-hold a = rows_are (λ s w n. MeetsAt s w n (bit a) → RowsHold ts rs a) (λ m. met-hold (meaning ts rs).rows a kinds (λ r i. meets-all hs a m r (subst (Memᴰ r) (sym all) i)))

    pub laid-met : (a : ℕ) → RowsHold ts rs a → MeetsAt (take (halves + 1) starts) (take used laid) (take halves needs) (bit a)
    laid-met a f = rows_are (λ s w n. MeetsAt s w n (bit a)) (all-meets hs a (λ r i. hold-met (meaning ts rs).rows a kinds f r (subst (Memᴰ r) all i)))

-- ---- in order, and laid out

pub priced-ordered : {ts rs : List ℤ} {n i : ℕ} {costs : List Cost} → Priced ts rs n i costs → Ordered ts rs n i costs
priced-ordered p = record { are = p.are; cost_le = p.cost_le; value_le = p.value_le }

pub all-ordered : {ts rs : List ℤ} {n k : ℕ} {costs : List Cost} → PricedAll ts rs n k costs → OrderedAll ts rs n k costs
all-ordered p = record { long = p.long; each = λ i l. priced-ordered (p.each i l) }

pub normal-ordered : {ts rs : List ℤ} {k : ℕ} {rows : Rows} {costs : List Cost} → Normal ts rs k rows costs → InOrder ts rs k rows costs
normal-ordered nm = record {
  is = nm.is;
  variables = nm.variables;
  objectives = nm.objectives;
  rows_hold = nm.rows_hold;
  rows_met = nm.rows_met;
  priced = all-ordered nm.priced;
}

pub ordered-normal : {ts rs : List ℤ} {k : ℕ} {rows : Rows} {costs : List Cost} → InOrder ts rs k rows costs → PricedAll ts rs rows.n k costs → Normal ts rs k rows costs
ordered-normal o p = record {
  is = o.is;
  variables = o.variables;
  objectives = o.objectives;
  rows_hold = o.rows_hold;
  rows_met = o.rows_met;
  priced = p;
}

-- ---- all

module _ {ts rs : List ℤ} (is : IsInstance ts rs) {k m : ℕ} (ke : k ≡ objectives_in rs) (me : m ≡ rows_in rs)
    {starts : List ℕ} {laid : List HalfTerm} {needs : List ℕ} {halves used : ℕ} (l : Laid (half_rows_all (tabulate (entry_at ts rs) k m)) starts laid needs halves used) where
  all : half_rows_all (tabulate (entry_at ts rs) k m) ≡ half_rows_all (meaning ts rs).rows
  all = ap half_rows_all (ap₂ (λ (a b : ℕ). tabulate (entry_at ts rs) a b) ke me)

  pub few-halves : halves ≤ max_rows + max_rows
  few-halves = omega (arith, l.halves_is, ap length all, (all-few (meaning ts rs).rows).0, (instance-within is).few_rows)

  pub few-terms : used ≤ max_terms + max_terms
  few-terms = omega (
    arith,
    l.used_is,
    ap (λ (hs : List HalfRow). length (all_halves hs)) all,
    (all-few (meaning ts rs).rows).1,
    (instance-within is).few_terms,
    ap length (all_terms-append (meaning ts rs).objectives (meaning ts rs).rows),
    length-append (all_terms (meaning ts rs).objectives) (all_terms (meaning ts rs).rows),
  )

  pub few-table : Table (meaning ts rs).variables (take (halves + 1) starts) (take used laid) (take halves needs)
  few-table = laid-table is all l (omega (arith, few-halves)) (omega (arith, few-terms))

  pub few-small : (j : ℕ) → j < length (take used laid) → weight (take used laid) j ≤ max_coef
  few-small = laid-weights is all l

  pub ordered-is : (rows : Rows) → rows.n ≡ (meaning ts rs).variables → rows.starts.now ≡ take (halves + 1) starts → rows.terms.now ≡ take used laid → rows.needs.now ≡ take halves needs
      → {costs : List Cost} → OrderedAll ts rs rows.n k costs → InOrder ts rs k rows costs
  ordered-is rows ne se te de p = record {
    is = is;
    variables = ne;
    objectives = ke;
    rows_hold = λ a f. laid-hold is all l a (three (λ s w n. MeetsAt s w n (bit a)) (sym se) (sym te) (sym de) (meets-at rows (bit a) f));
    rows_met = λ a f. at-meets rows (bit a) (three (λ s w n. MeetsAt s w n (bit a)) se te de (laid-met is all l a f));
    priced = p;
  }

  pub normal-is : (rows : Rows) → rows.n ≡ (meaning ts rs).variables → rows.starts.now ≡ take (halves + 1) starts → rows.terms.now ≡ take used laid → rows.needs.now ≡ take halves needs
      → {costs : List Cost} → PricedAll ts rs rows.n k costs → Normal ts rs k rows costs
  normal-is rows ne se te de p = ordered-normal (ordered-is rows ne se te de (all-ordered p)) p
