-- What terms give, or withhold, added up for the sides of their variables. Assumes nothing.
use mathlib.Core.Path.{◌≡◌, refl, sym, ap, ap₂, ◌∙◌, subst}
use mathlib.Core.Logic.{⊎_elim}
use mathlib.Core.Bool.{Bool, true, false, cond}
use mathlib.Core.List.{List, [], ◌∷◌, ◌++◌}
use Prim.Native.Nat.{ℕ, zero, suc, ◌+◌, ◌-◌, ◌≤◌, ◌<◌}
use native.Mathlib.Omega.{arith}
use native.Mathlib.Decide.{dec_lt}
use lib.Dec.{eqb}
use lib.IntN.{ℤ, nat_abs}
use lib.ListN.{length, get_or, set, replicate, length-replicate, get_or-replicate, get_or-eq_default}
use lib.Seq.{get_or-set_same, get_or-set_other}
use borrow.Author.Tests.{eq-eqb, ne_eqb}
use Rattle.charging.specs.Rows.{hit, span, bit}
use Rattle.charging.proofs.BitLaws.{bit_word, bit-two}
use Rattle.charging.proofs.SumLaws.{eq-or, hit-eq, hit-ne}
use Rattle.instance.specs.Terms.{Term, TermOk}
use Rattle.instance.specs.Tables.{term_at}
use Rattle.instance.specs.Lists.{tabulate}
use Rattle.normal.specs.declared.Half.{Half}
use Rattle.normal.specs.Halves.{half_of, bit_of, gives, gives_all}
use Rattle.normal.specs.Rows.{halves_at}
use Rattle.normal.specs.declared.costs.Sides.{Sides as SidesOf}
use Rattle.normal.specs.Costs.{no_sides, at_side, side_of, more_at, sides_of, Spread}
use Rattle.normal.specs.Ceilings.{Bits}
use Rattle.normal.proofs.LaidLaws.{halves-snoc}
use Rattle.normal.proofs.TableLaws.{HalfOk, half-ok}

-- ---- sides

-- sides that are all 0
pub zeros : (m v b : ℕ) → side_of (replicate m no_sides) v b ≡ 0
zeros m v b = subst (λ (s : SidesOf). at_side s b ≡ 0) (sym (by (dec_lt v m))) (none (eqb b 0))
  where
    none : (t : Bool) → cond t no_sides.zero no_sides.one ≡ 0
    none true = refl
    none false = refl

    by : Dec (v < m) → get_or (replicate m no_sides) v no_sides ≡ no_sides
    by (yes l) = get_or-replicate m v no_sides no_sides l
    by (no l) = get_or-eq_default (replicate m no_sides) no_sides {n = v} (omega (arith, length-replicate m no_sides))

-- ---- gives_all

gives-append : (xs ys : List Half) (a : ℕ) → gives_all (xs ++ ys) a ≡ gives_all xs a + gives_all ys a
unfolding gives_all
gives-append [] ys a = omega arith
gives-append (x ∷ xs) ys a = omega (arith, gives-append xs ys a)

gives-snoc : (xs : List Half) (h : Half) (a : ℕ) → gives_all (xs ++ (h ∷ [])) a ≡ gives_all xs a + gives h a
unfolding gives_all
gives-snoc xs h a = omega (arith, gives-append xs (h ∷ []) a)

-- ---- sides_sum

-- a sum that differs at one place
pub span-one : (f g : ℕ → ℕ) (n u m : ℕ) → ((k : ℕ) → k < n → (k ≡ u → ⊥) → g k ≡ f k) → u < n → g u ≡ f u + m → span g 0 n ≡ span f 0 n + m
unfolding span
span-one f g zero u m e h d = absurd (omega arith)
span-one f g (suc n) u m e h d = by (dec_lt u n) (λ l. span-one f g n u m (λ k i z. e k (omega arith) z) l d)
  where
    last : 0 + n ≡ n
    last = omega arith

    same : (j : ℕ) → j ≤ n → ((k : ℕ) → k < j → g k ≡ f k) → span g 0 j ≡ span f 0 j
    same zero l q = refl
    same (suc j) l q = ap₂ ◌+◌ (same j (omega arith) (λ k i. q k (omega arith))) (ap g zero-first ∙ q j (omega arith) ∙ ap f (sym zero-first))
      where
        zero-first : 0 + j ≡ j
        zero-first = omega arith

    by : Dec (u < n) → (u < n → span g 0 n ≡ span f 0 n + m) → span g 0 n + g (0 + n) ≡ span f 0 n + f (0 + n) + m
    by (yes l) below = omega (arith, below l, ap g last, ap f last, e n (omega arith) (λ z. omega arith))
    by (no l) below = omega (arith, same n (omega arith) (λ k i. e k (omega arith) (λ z. omega arith)), ap g last, ap f last, ap g here, ap f here, d)
      where
        here : n ≡ u
        here = omega arith

pub sides-none : (n : ℕ) (sides : List SidesOf) (x : ℕ → ℕ) → ((v b : ℕ) → side_of sides v b ≡ 0) → sides_of n sides x ≡ 0
unfolding span
sides-none zero sides x f = refl
sides-none (suc n) sides x f = omega (arith, sides-none n sides x f, f (0 + n) (x (0 + n)))

-- m more at side b, looked at from side c
more-hit : (s : SidesOf) (b c m : ℕ) → b < 2 → c < 2 → at_side (more_at s b m) c ≡ at_side s c + hit c b m
unfolding hit
more-hit s zero zero m l h = refl
more-hit s zero (suc zero) m l h = refl
more-hit s (suc zero) zero m l h = refl
more-hit s (suc zero) (suc zero) m l h = refl
more-hit s (suc (suc b)) c m l h = absurd (omega arith)
more-hit s zero (suc (suc c)) m l h = absurd (omega arith)
more-hit s (suc zero) (suc (suc c)) m l h = absurd (omega arith)

more-up : (s : SidesOf) (b c m : ℕ) → at_side (more_at s b m) c ≤ at_side s c + m
more-up s b c m = by (eqb b 0) (eqb c 0)
  where
    by : (t u : Bool) → cond u (s.zero + cond t m 0) (s.one + cond t 0 m) ≤ cond u s.zero s.one + m
    by true true = omega arith
    by true false = omega arith
    by false true = omega arith
    by false false = omega arith

-- m is added at side b of variable v
abbrev pub added : List SidesOf → ℕ → ℕ → ℕ → List SidesOf
added sides v b m = set sides v (more_at (get_or sides v no_sides) b m)

module _ (n : ℕ) (sides : List SidesOf) (v b m : ℕ) (lv : v < n) (lb : b < 2) (room : n ≤ length sides) where
  own : get_or (added sides v b m) v no_sides ≡ more_at (get_or sides v no_sides) b m
  own = get_or-set_same sides v (more_at (get_or sides v no_sides) b m) no_sides (omega arith)

  other : (u : ℕ) → (u ≡ v → ⊥) → get_or (added sides v b m) u no_sides ≡ get_or sides u no_sides
  other u e = get_or-set_other sides v u (more_at (get_or sides v no_sides) b m) no_sides e

  -- no side grows by more
  pub sides-up : (u c : ℕ) → side_of (added sides v b m) u c ≤ side_of sides u c + m
  sides-up u c = ⊎_elim
      (λ e. subst (λ (k : ℕ). side_of (added sides v b m) k c ≤ side_of sides k c + m) (sym e)
      (subst (λ (s : SidesOf). at_side s c ≤ side_of sides v c + m) (sym own) (more-up (get_or sides v no_sides) b c m)))
      (λ e. omega (arith, ap (λ (s : SidesOf). at_side s c) (other u e)))
      (eq-or u v)

  -- an assignment comes to m more where it has the variable at that side
  pub sides-hit : (x : ℕ → ℕ) → Bits n x → sides_of n (added sides v b m) x ≡ sides_of n sides x + hit (x v) b m
  sides-hit x two =
      span-one (λ (u : ℕ). side_of sides u (x u)) (λ (u : ℕ). side_of (added sides v b m) u (x u)) n v (hit (x v) b m) (λ u l e. ap (λ (s : SidesOf). at_side s (x u)) (other u e)) lv
      (ap (λ (s : SidesOf). at_side s (x v)) own ∙ more-hit (get_or sides v no_sides) b (x v) m lb (two v lv))

-- ---- Spread

-- a term that was read is one that stands there
pub half-fits : (n : ℕ) {h : Half} {t u : Term} → h ≡ half_of false t → t ≡ u → TermOk u → nat_abs u.lit ≤ n → HalfOk n h
half-fits n {h} {t} {u} e f o l = subst (HalfOk n) (sym (e ∙ ap (half_of false) f)) (half-ok n false u o l)

pub spread_none : (ts : List ℤ) (first n : ℕ) (sides : List SidesOf) → ((v b : ℕ) → side_of sides v b ≡ 0) → Spread ts first 0 n sides
unfolding tabulate gives_all
spread_none ts first n sides f = record { sums = λ a. sides-none n sides (bit a) f; small = λ v b. omega (arith, f v b) }

-- a term gives its weight at the side that its variable is not off
gives-hit : (h : Half) (a : ℕ) → h.term.off < 2 → hit (bit a h.term.variable) (1 - h.term.off) h.term.weight ≡ gives h a
gives-hit h a l = ⊎_elim off on (eq-or (bit a h.term.variable) h.term.off)
  where
    off : bit a h.term.variable ≡ h.term.off → hit (bit a h.term.variable) (1 - h.term.off) h.term.weight ≡ gives h a
    off e = hit-ne (bit a h.term.variable) (1 - h.term.off) h.term.weight (λ z. omega arith)
        ∙ sym (ap (λ (b : Bool). cond b 0 h.term.weight) (eq-eqb (bit_of a h.term.variable) h.term.off (sym (bit_word a h.term.variable) ∙ e)))

    on : (bit a h.term.variable ≡ h.term.off → ⊥) → hit (bit a h.term.variable) (1 - h.term.off) h.term.weight ≡ gives h a
    on e = hit-eq (bit a h.term.variable) (1 - h.term.off) h.term.weight (omega (arith, bit-two a h.term.variable))
        ∙ sym (ap (λ (b : Bool). cond b 0 h.term.weight) (ne_eqb (bit_of a h.term.variable) h.term.off (λ z. e (bit_word a h.term.variable ∙ z))))

pub spread-more : (ts : List ℤ) (first k n : ℕ) {sides : List SidesOf} → Spread ts first k n sides → (h : Half) → h ≡ half_of false (term_at ts (first + k)) → HalfOk n h → n ≤ length sides
    → Spread ts first (k + 1) n (added sides h.term.variable (1 - h.term.off) h.term.weight)
spread-more ts first k n {sides} s h e o room = record {
  sums = λ a. sides-hit n sides h.term.variable (1 - h.term.off) h.term.weight o.variable (omega arith) room (bit a) (λ v l. bit-two a v)
      ∙ ap₂ ◌+◌ (s.sums a) (gives-hit h a o.off ∙ ap (λ (x : Half). gives x a) e)
      ∙ sym (gives-snoc (halves_at ts first k false) (half_of false (term_at ts (first + k))) a) ∙ ap (λ (hs : List Half). gives_all hs a) (sym (halves-snoc ts first k false));
  small = λ v b. omega (arith, sides-up n sides h.term.variable (1 - h.term.off) h.term.weight o.variable (omega arith) room v b, s.small v b, o.weight);
}
