-- One half row more is laid out. Assumes nothing.
use mathlib.Core.Path.{◌≡◌, sym, ap, ◌∙◌}
use mathlib.Core.Bool.{Bool}
use mathlib.Core.List.{List, [], ◌∷◌, ◌++◌, map, append_assoc, append-nil}
use Prim.Native.Nat.{ℕ, zero, suc, ◌+◌, ◌*◌, ◌≤◌, ◌<◌, zero-le}
use native.Mathlib.Omega.{arith}
use native.Mathlib.Numerals.{add-one}
use lib.IntN.{ℤ}
use lib.ListN.{length, take, set, length-set, length-append}
use lib.Seq.{take-suc-set}
use Rattle.instance.specs.Limits.{max_coef}
use Rattle.instance.specs.Parts.{TermsOk}
use Rattle.instance.specs.Tables.{term_at}
use Rattle.instance.specs.Lists.{tabulate}
use Rattle.charging.specs.declared.rows.Term.{Term as HalfTerm}
use Rattle.normal.specs.declared.Half.{Half}
use Rattle.normal.specs.Halves.{half_of, lost_all, need_by}
use Rattle.normal.specs.Rows.{halves_at, terms_of, HalfPut, HalfRow, all_halves, starts_from}
use Rattle.normal.specs.Grown.{Grown, Rooms}
use Rattle.normal.proofs.LaidLaws.{map-append, halves-snoc, halves-length, lost-snoc, lost-le}

-- ---- lost_all

pub lost-all-le : (ts : List ℤ) (first count : ℕ) (turn : Bool) → TermsOk ts (first + count) → lost_all (halves_at ts first count turn) ≤ count * max_coef
unfolding tabulate lost_all
lost-all-le ts first zero turn h = zero-le
lost-all-le ts first (suc k) turn h =
    omega (
      arith,
      lost-all-le ts first k turn (λ j l. h j (omega arith)),
      ap (λ (n : ℕ). lost_all (halves_at ts first n turn)) (sym (add-one k)) ∙ ap lost_all (halves-snoc ts first k turn) ∙ lost-snoc (halves_at ts first k turn) (half_of turn (term_at ts (first + k))),
      lost-le turn (term_at ts (first + k)) (h (first + k) (omega arith)),
    )

-- ---- all_halves, starts_from

pub all_halves-snoc : (hs : List HalfRow) (r : HalfRow) → all_halves (hs ++ (r ∷ [])) ≡ all_halves hs ++ r.terms
unfolding all_halves
all_halves-snoc [] r = append-nil r.terms
all_halves-snoc (h ∷ hs) r = ap (λ (l : List Half). h.terms ++ l) (all_halves-snoc hs r) ∙ sym (append_assoc h.terms (all_halves hs) r.terms)

pub starts-snoc : (first : ℕ) (hs : List HalfRow) (r : HalfRow) → starts_from first (hs ++ (r ∷ [])) ≡ starts_from first hs ++ ((first + length (all_halves hs) + length r.terms) ∷ [])
unfolding starts_from all_halves
starts-snoc first [] r = ap (λ (n : ℕ). first ∷ (n ∷ [])) same
  where
    same : first + length r.terms ≡ first + 0 + length r.terms
    same = omega arith
starts-snoc first (h ∷ hs) r = ap (λ (l : List ℕ). first ∷ l) (starts-snoc (first + length h.terms) hs r ∙ ap (λ (n : ℕ). starts_from (first + length h.terms) hs ++ (n ∷ [])) same)
  where
    same : first + length h.terms + length (all_halves hs) + length r.terms ≡ first + length (h.terms ++ all_halves hs) + length r.terms
    same = omega (arith, length-append h.terms (all_halves hs))

-- ---- Grown

-- a store just after what is taken adds to it
take_next : (l xs : List ℕ) (i v : ℕ) → i < length l → take i l ≡ xs → take (i + 1) (set l i v) ≡ xs ++ (v ∷ [])
take_next l xs i v h e = ap (λ (n : ℕ). take n (set l i v)) (add-one i) ∙ take-suc-set l i v h ∙ ap (λ (ys : List ℕ). ys ++ (v ∷ [])) e

-- the half row of terms of the table, once its terms, its need and the next start are stored
module _ (ts : List ℤ) (first count : ℕ) (turn : Bool) (bound : ℤ) where
  abbrev half : HalfRow
  half = record { terms = halves_at ts first count turn; need = need_by turn bound (lost_all (halves_at ts first count turn)) }

  pub grown-half : {starts : List ℕ} {laid laid' : List HalfTerm} {needs : List ℕ} {halves used lost need : ℕ}
      → Rooms starts laid needs (halves + 1) (used + count) → HalfPut ts first count turn used laid laid' lost → need ≡ need_by turn bound lost
      → Grown (half ∷ []) starts (set starts (halves + 1) (used + count)) laid laid' needs (set needs halves need) halves used (halves + 1) (used + count)
  unfolding all_halves
  grown-half {starts} {laid} {laid'} {needs} {halves} {used} {lost} {need} room p e = record {
    starts_same = simp length-set;
    laid_same = p.same;
    needs_same = simp length-set;
    halves_more = omega arith;
    used_more = omega (arith, ap length (append-nil half.terms), size);
    more = λ hs l. record {
      halves_is = ap (λ (n : ℕ). n + 1) l.halves_is ∙ sym (length-append hs (half ∷ []));
      used_is = omega (arith, l.used_is, ap length (all_halves-snoc hs half), length-append (all_halves hs) half.terms, size);
      starts_are = take_next starts (starts_from 0 hs) (halves + 1) (used + count) (omega (arith, room.starts_room)) l.starts_are
          ∙ ap (λ (n : ℕ). starts_from 0 hs ++ (n ∷ [])) (next hs l.used_is) ∙ sym (starts-snoc 0 hs half);
      terms_are = p.laid ∙ ap (λ (xs : List HalfTerm). xs ++ terms_of half.terms) l.terms_are
          ∙ sym (map-append (λ (h : Half). h.term) (all_halves hs) half.terms) ∙ ap terms_of (sym (all_halves-snoc hs half));
      needs_are = take_next needs (map (λ r. r.need) hs) halves need (omega (arith, room.needs_room)) l.needs_are
          ∙ ap (λ (n : ℕ). map (λ r. r.need) hs ++ (n ∷ [])) (e ∙ ap (need_by turn bound) p.lost) ∙ sym (map-append (λ r. r.need) hs (half ∷ []));
    };
  }
    where
      size : length (halves_at ts first count turn) ≡ count
      size = halves-length ts first count turn

      next : (hs : List HalfRow) → used ≡ length (all_halves hs) → used + count ≡ 0 + length (all_halves hs) + length half.terms
      next hs u = omega (arith, size)
