-- The half rows that are laid out are met exactly where all rows hold. Assumes nothing.
use mathlib.Core.Path.{◌≡◌, refl, sym, ap, subst}
use mathlib.Core.Logic.{⊎_elim}
use mathlib.Core.Bool.{Bool, true, false, not}
use mathlib.Core.List.Memᴰ
use mathlib.Core.List.{List, [], ◌∷◌, map, Memᴰ}
use Prim.Native.Nat.{ℕ, zero, suc, ◌≤◌, ◌<◌}
use native.Mathlib.Omega.{arith}
use lib.Dec.{eqb}
use lib.ListN.{length, get_or, length-map, get_or-map}
use borrow.Author.Tests.{ne_eqb, eqb-false, not-true}
use Rattle.charging.specs.declared.rows.Term.{Term as HalfTerm}
use Rattle.charging.specs.Rows.{bit}
use Rattle.instance.specs.Rows.{Entry, holds}
use Rattle.normal.specs.Halves.{gives_all, RowMet}
use Rattle.normal.specs.Rows.{HalfRow, terms_of, all_halves, starts_from}
use Rattle.normal.specs.Grown.{if_wanted, half_row, half_rows_of, half_rows_all}
use Rattle.normal.proofs.RowLaws.{holds-met, met_holds}
use Rattle.normal.proofs.SpanLaws.{row_at, left_at, left-gives}

-- a half row is met
abbrev pub IsMet : HalfRow → ℕ → Type 0
IsMet r a = r.need ≤ gives_all r.terms a

-- ---- members and places

member-at : (hs : List HalfRow) (k : ℕ) → k < length hs → Memᴰ (row_at hs k) hs
member-at [] k h = absurd (omega arith)
member-at (r ∷ rs) zero h = Memᴰ.head refl
member-at (r ∷ rs) (suc k) h = Memᴰ.tail (member-at rs k (omega arith))

-- what holds at every place holds of every member
place-all : (P : HalfRow → Type 0) (hs : List HalfRow) → ((k : ℕ) → k < length hs → P (row_at hs k)) → (r : HalfRow) → Memᴰ r hs → P r
place-all P [] f r m = absurd (Memᴰ.not-nil m)
place-all P (x ∷ xs) f r m = ⊎_elim (λ e. subst P (sym e) (f 0 (omega arith))) (λ n. place-all P xs (λ k h. f (suc k) (omega arith)) r n) (Memᴰ.cases_cons m)

-- ---- MeetsAt

-- what it is to meet every row, by the places of the terms among all
abbrev pub MeetsAt : List ℕ → List HalfTerm → List ℕ → (ℕ → ℕ) → Type 0
MeetsAt starts terms needs x = (h : ℕ) → h < length needs → get_or needs h 0 ≤ left_at starts terms x h

module _ (hs : List HalfRow) (a : ℕ) where
  need-at : (k : ℕ) → get_or (map (λ r. r.need) hs) k 0 ≡ (row_at hs k).need
  need-at k = get_or-map (λ r. r.need) hs k (record { terms = []; need = 0 })

  pub meets-all : MeetsAt (starts_from 0 hs) (terms_of (all_halves hs)) (map (λ r. r.need) hs) (bit a) → (r : HalfRow) → Memᴰ r hs → IsMet r a
  meets-all m = place-all (λ r. IsMet r a) hs (λ k h. subst (λ (n : ℕ). n ≤ gives_all (row_at hs k).terms a) (need-at k) (subst (λ (n : ℕ). get_or (map (λ r. r.need) hs) k 0 ≤ n) (left-gives a hs [] k h) (m k (omega (arith, length-map hs (λ r. r.need))))))

  pub all-meets : ((r : HalfRow) → Memᴰ r hs → IsMet r a) → MeetsAt (starts_from 0 hs) (terms_of (all_halves hs)) (map (λ r. r.need) hs) (bit a)
  all-meets f k h =
      let l : k < length hs = omega (arith, length-map hs (λ r. r.need)) in
      subst (λ (n : ℕ). get_or (map (λ r. r.need) hs) k 0 ≤ n) (sym (left-gives a hs [] k l)) (subst (λ (n : ℕ). n ≤ gives_all (row_at hs k).terms a) (sym (need-at k)) (f (row_at hs k) (member-at hs k l)))

-- ---- the half rows of one row

wanted-member : (want : Bool) (x r : HalfRow) → Memᴰ r (if_wanted want x) → (want ≡ true) × (r ≡ x)
wanted-member true x r m = (refl, Memᴰ.eq_of_singleton m)
wanted-member false x r m = absurd (Memᴰ.not-nil m)

member-wanted : (want : Bool) (x : HalfRow) → want ≡ true → Memᴰ x (if_wanted want x)
member-wanted true x e = Memᴰ.head refl
member-wanted false x e = absurd (subst (λ (b : Bool). lib.Dec.T b) (sym e) tt)

not-kind : (k n : ℕ) → not (eqb k n) ≡ true → k ≡ n → ⊥
not-kind k n e = eqb-false k n (not-true (eqb k n) e)

kind-not : (k n : ℕ) → (k ≡ n → ⊥) → not (eqb k n) ≡ true
kind-not k n h = ap not (ne_eqb k n h)

row-halves : (e : Entry) (a : ℕ) → RowMet e a → (r : HalfRow) → Memᴰ r (half_rows_of e) → IsMet r a
row-halves e a m r i = ⊎_elim
    (λ j. let w = wanted-member (not (eqb e.kind 3)) (half_row false e) r j in subst (λ (x : HalfRow). IsMet x a) (sym w.1) (m.plain (not-kind e.kind 3 w.0)))
    (λ j. let w = wanted-member (not (eqb e.kind 2)) (half_row true e) r j in subst (λ (x : HalfRow). IsMet x a) (sym w.1) (m.turned_met (not-kind e.kind 2 w.0)))
    (Memᴰ.append_cases (if_wanted (not (eqb e.kind 3)) (half_row false e)) i)

halves-row : (e : Entry) (a : ℕ) → ((r : HalfRow) → Memᴰ r (half_rows_of e) → IsMet r a) → RowMet e a
halves-row e a f = record {
  plain = λ n. f (half_row false e) (Memᴰ.append_left (if_wanted (not (eqb e.kind 2)) (half_row true e)) (member-wanted (not (eqb e.kind 3)) (half_row false e) (kind-not e.kind 3 n)));
  turned_met = λ n. f (half_row true e) (Memᴰ.append_right (if_wanted (not (eqb e.kind 3)) (half_row false e)) (member-wanted (not (eqb e.kind 2)) (half_row true e) (kind-not e.kind 2 n)));
}

-- ---- all rows

-- the kinds of rows
abbrev pub Kinds : List Entry → Type 0
Kinds es = (e : Entry) → Memᴰ e es → (2 ≤ e.kind) × (e.kind ≤ 4)

pub hold-met : (es : List Entry) (a : ℕ) → Kinds es → ((e : Entry) → Memᴰ e es → holds e a ≡ true) → (r : HalfRow) → Memᴰ r (half_rows_all es) → IsMet r a
unfolding half_rows_all
hold-met [] a c f r m = absurd (Memᴰ.not-nil m)
hold-met (e ∷ es) a c f r m = ⊎_elim
    (λ i. row-halves e a (holds-met e a (c e (Memᴰ.head refl)).0 (c e (Memᴰ.head refl)).1 (f e (Memᴰ.head refl))) r i)
    (λ i. hold-met es a (λ x j. c x (Memᴰ.tail j)) (λ x j. f x (Memᴰ.tail j)) r i)
    (Memᴰ.append_cases (half_rows_of e) m)

pub met-hold : (es : List Entry) (a : ℕ) → Kinds es → ((r : HalfRow) → Memᴰ r (half_rows_all es) → IsMet r a) → (e : Entry) → Memᴰ e es → holds e a ≡ true
unfolding half_rows_all
met-hold [] a c f e m = absurd (Memᴰ.not-nil m)
met-hold (x ∷ es) a c f e m = ⊎_elim
    (λ i. subst (λ (y : Entry). holds y a ≡ true) (sym i) (met_holds x a (c x (Memᴰ.head refl)).0 (c x (Memᴰ.head refl)).1 (halves-row x a (λ r j. f r (Memᴰ.append_left (half_rows_all es) j)))))
    (λ i. met-hold es a (λ y j. c y (Memᴰ.tail j)) (λ r j. f r (Memᴰ.append_right (half_rows_of x) j)) e i)
    (Memᴰ.cases_cons m)
