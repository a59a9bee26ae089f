-- The runs of half rows are a table that the search can use. Assumes nothing.
use mathlib.Core.Path.{◌≡◌, refl, sym, ap, ◌∙◌, subst}
use mathlib.Core.Logic.{⊎_elim}
use mathlib.Core.Bool.{Bool, true, false, not}
use mathlib.Core.List.Memᴰ
use mathlib.Core.List.{List, [], ◌∷◌, map, Memᴰ}
use Prim.Native.Nat.{ℕ, zero, suc, ◌+◌, ◌^◌, ◌≤◌, ◌<◌}
use native.Mathlib.Omega.{arith}
use lib.Dec.{eqb}
use lib.IntN.{ℤ, pos, negsuc, nat_abs}
use lib.ListN.{length, get_or, length-map, length-append, get_or-map}
use Rattle.charging.specs.declared.rows.Term.{Term as HalfTerm}
use Rattle.charging.specs.Rows.{no_term, weight, Terms, Table}
use Rattle.instance.specs.Limits.{max_coef, max_variable}
use Rattle.instance.specs.Terms.{Term, TermOk}
use Rattle.instance.specs.Rows.{Entry}
use Rattle.instance.specs.Layout.{all_terms}
use Rattle.normal.specs.declared.Half.{Half}
use Rattle.normal.specs.Halves.{is_negative, off_side, half_of}
use Rattle.normal.specs.Rows.{HalfRow, terms_of, all_halves, starts_from}
use Rattle.normal.specs.Grown.{if_wanted, half_row, half_rows_of, half_rows_all}
use Rattle.normal.proofs.SpanLaws.{starts-head}
use Rattle.normal.proofs.GrownLaws.{all_halves-append}

-- ---- halves in range

pub record HalfOk (n : ℕ) (h : Half) : Type 0 where
  pub variable : h.term.variable < n
  pub off : h.term.off < 2
  pub weight : h.term.weight ≤ max_coef

off-two : (l : ℤ) (b : Bool) → off_side l b < 2
off-two (pos n) true = omega arith
off-two (pos n) false = omega arith
off-two (negsuc n) true = omega arith
off-two (negsuc n) false = omega arith

pub half-ok : (n : ℕ) (turn : Bool) (t : Term) → TermOk t → nat_abs t.lit ≤ n → HalfOk n (half_of turn t)
half-ok n turn t h l = record { variable = omega (arith, h.named.low); off = off-two t.lit (is_negative turn t.coef); weight = h.small }

map-ok : (n : ℕ) (turn : Bool) (ts : List Term) → ((t : Term) → Memᴰ t ts → TermOk t × (nat_abs t.lit ≤ n)) → (h : Half) → Memᴰ h (map (half_of turn) ts) → HalfOk n h
map-ok n turn [] f h m = absurd (Memᴰ.not-nil m)
map-ok n turn (t ∷ ts) f h m = ⊎_elim
    (λ e. subst (HalfOk n) (sym e) (half-ok n turn t (f t (Memᴰ.head refl)).0 (f t (Memᴰ.head refl)).1))
    (λ i. map-ok n turn ts (λ x j. f x (Memᴰ.tail j)) h i)
    (Memᴰ.cases_cons m)

wanted-ok : (n : ℕ) (want : Bool) (r : HalfRow) → ((h : Half) → Memᴰ h r.terms → HalfOk n h) → (h : Half) → Memᴰ h (all_halves (if_wanted want r)) → HalfOk n h
unfolding all_halves
wanted-ok n true r f h m = ⊎_elim (λ i. f h i) (λ i. absurd (Memᴰ.not-nil i)) (Memᴰ.append_cases r.terms m)
wanted-ok n false r f h m = absurd (Memᴰ.not-nil m)

row_ok : (n : ℕ) (e : Entry) → ((t : Term) → Memᴰ t e.terms → TermOk t × (nat_abs t.lit ≤ n)) → (h : Half) → Memᴰ h (all_halves (half_rows_of e)) → HalfOk n h
row_ok n e f h m = ⊎_elim
    (λ i. wanted-ok n (not (eqb e.kind 3)) (half_row false e) (map-ok n false e.terms f) h i)
    (λ i. wanted-ok n (not (eqb e.kind 2)) (half_row true e) (map-ok n true e.terms f) h i)
    (Memᴰ.append_cases (all_halves (if_wanted (not (eqb e.kind 3)) (half_row false e)))
    (subst (Memᴰ h) (all_halves-append (if_wanted (not (eqb e.kind 3)) (half_row false e)) (if_wanted (not (eqb e.kind 2)) (half_row true e))) m))

pub rows_ok : (n : ℕ) (es : List Entry) → ((t : Term) → Memᴰ t (all_terms es) → TermOk t × (nat_abs t.lit ≤ n)) → (h : Half) → Memᴰ h (all_halves (half_rows_all es)) → HalfOk n h
unfolding half_rows_all all_halves all_terms
rows_ok n [] f h m = absurd (Memᴰ.not-nil m)
rows_ok n (e ∷ es) f h m = ⊎_elim
    (λ i. row_ok n e (λ t j. f t (Memᴰ.append_left (all_terms es) j)) h i)
    (λ i. rows_ok n es (λ t j. f t (Memᴰ.append_right e.terms j)) h i)
    (Memᴰ.append_cases (all_halves (half_rows_of e)) (subst (Memᴰ h) (all_halves-append (half_rows_of e) (half_rows_all es)) m))

-- ---- by place

no_half : Half
no_half = record { term = no_term; lost = 0 }

half_at : (hs : List Half) (k : ℕ) → k < length hs → Memᴰ (get_or hs k no_half) hs
half_at [] k l = absurd (omega arith)
half_at (h ∷ hs) zero l = Memᴰ.head refl
half_at (h ∷ hs) (suc k) l = Memᴰ.tail (half_at hs k (omega arith))

module _ (n : ℕ) (hs : List Half) (f : (h : Half) → Memᴰ h hs → HalfOk n h) where
  at_ok : (k : ℕ) → k < length hs → HalfOk n (get_or hs k no_half)
  at_ok k l = f (get_or hs k no_half) (half_at hs k l)

  term_at : (k : ℕ) → get_or (terms_of hs) k no_term ≡ (get_or hs k no_half).term
  unfolding no_half
  term_at k = get_or-map (λ h. h.term) hs k no_half

  inside : (k : ℕ) → k < length (terms_of hs) → k < length hs
  inside k l = omega (arith, length-map hs (λ h. h.term))

  pub weights-coef : (k : ℕ) → k < length (terms_of hs) → weight (terms_of hs) k ≤ max_coef
  weights-coef k l = omega (arith, ap (λ (t : HalfTerm). t.weight) (term_at k), (at_ok k (inside k l)).weight)

  pub terms-table : n ≤ max_variable → length hs ≤ 2 ^ 24 → Terms n (terms_of hs)
  terms-table few short = record {
    vars = λ k l. omega (arith, ap (λ (t : HalfTerm). t.variable) (term_at k), (at_ok k (inside k l)).variable);
    sides = λ k l. omega (arith, ap (λ (t : HalfTerm). t.off) (term_at k), (at_ok k (inside k l)).off);
    small = λ k l. omega (arith, weights-coef k l);
    few = few;
    short = omega (arith, length-map hs (λ h. h.term));
  }

-- ---- starts

starts-length : (first : ℕ) (hs : List HalfRow) → length (starts_from first hs) ≡ length hs + 1
unfolding starts_from
starts-length first [] = refl
starts-length first (r ∷ rs) = omega (arith, starts-length (first + length r.terms) rs)

-- each start is at most the next, and that at most the end
starts-rise : (first : ℕ) (hs : List HalfRow) (k : ℕ) → k < length hs → (get_or (starts_from first hs) k 0 ≤ get_or (starts_from first hs) (k + 1) 0) × (get_or (starts_from first hs) (k + 1) 0 ≤ first + length (all_halves hs))
unfolding starts_from all_halves
starts-rise first [] k h = absurd (omega arith)
starts-rise first (r ∷ rs) zero h = (omega (arith, starts-head (first + length r.terms) rs), omega (arith, starts-head (first + length r.terms) rs, length-append r.terms (all_halves rs)))
starts-rise first (r ∷ rs) (suc k) h =
    let i = starts-rise (first + length r.terms) rs k (omega arith) in
    let e = ap (λ (n : ℕ). get_or (first ∷ starts_from (first + length r.terms) rs) n 0) up in
    (omega (arith, i.0, e), omega (arith, i.1, e, length-append r.terms (all_halves rs)))
  where
    up : suc k + 1 ≡ suc (k + 1)
    up = omega arith

pub rows-table : (n : ℕ) (hs : List HalfRow) → ((h : Half) → Memᴰ h (all_halves hs) → HalfOk n h) → n ≤ max_variable → length (all_halves hs) ≤ 2 ^ 24 → length hs ≤ 2 ^ 16
    → Table n (starts_from 0 hs) (terms_of (all_halves hs)) (map (λ r. r.need) hs)
rows-table n hs f few short rows = record {
  every = terms-table n (all_halves hs) f few short;
  starts = starts-length 0 hs ∙ ap (λ (m : ℕ). m + 1) (sym (length-map hs (λ r. r.need)));
  rising = λ k l. (starts-rise 0 hs k (omega (arith, length-map hs (λ r. r.need)))).0;
  inside = λ k l. omega (arith, (starts-rise 0 hs k (omega (arith, length-map hs (λ r. r.need)))).1, length-map (all_halves hs) (λ h. h.term));
  rows = omega (arith, length-map hs (λ r. r.need));
}
