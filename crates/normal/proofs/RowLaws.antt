-- A row holds exactly where its half rows are met. Assumes nothing.
use mathlib.Core.Path.{◌≡◌, refl, sym, ap, ap₂, subst}
use mathlib.Core.Logic.{⊎_elim}
use mathlib.Core.Bool.{Bool, true, false, cond}
use Prim.Native.Nat.{ℕ, zero, suc, ◌+◌, ◌≤◌}
use native.Mathlib.Omega.{arith}
use lib.Dec.{T, eqb}
use lib.IntN.{ℤ, pos, negsuc, nat_abs, neg_ℤ, ◌+ℤ◌, ◌-ℤ◌}
use lib.Signed.{le_z, ◌≤ℤ◌}
use borrow.Author.Tests.{eq-eqb, ne_eqb}
use Rattle.integers.proofs.SignedLaws.{up, dn, parts_add, neg-parts, one-part, abs-parts, le-to, le_from}
use Rattle.instance.specs.Terms.{sum}
use Rattle.instance.specs.Rows.{Entry, margin, holds}
use Rattle.normal.specs.Halves.{turned, halves_of, gives_all, lost_all, at_least_zero, HalfMet, RowMet}
use Rattle.normal.proofs.HalfLaws.{halves-give}

-- ---- tests of integers as facts

pub le-true : (x y : ℤ) → le_z x y ≡ true → x ≤ℤ y
le-true x y e = record { le = subst T (sym e) tt }

pub true-le : (x y : ℤ) → x ≤ℤ y → le_z x y ≡ true
true-le x y h = by (le_z x y) h.le
  where
    by : (b : Bool) → T b → b ≡ true
    by true t = refl
    by false t = absurd t

-- ---- HalfMet

zero-up : (z : ℤ) → at_least_zero z ≡ up z
zero-up (pos n) = refl
zero-up (negsuc n) = refl

module _ (turn : Bool) (e : Entry) (a : ℕ) where
  s : ℤ
  s = turned turn (sum e.terms a)

  b : ℤ
  b = turned turn e.bound

  l : ℕ
  l = lost_all (halves_of turn e)

  g : ℕ
  g = gives_all (halves_of turn e) a

  -- what all give is the sum with what was added
  given : pos g ≡ s +ℤ pos l
  unfolding s l g
  given = halves-give turn e.terms a

  -- the two natural parts of the sum, and of the bound, each with what was added
  sum-parts : g + dn s ≡ up s + l
  sum-parts = omega (arith, parts_add s (pos l), ap up given, ap dn given)

  bound-parts : up (b +ℤ pos l) + dn b ≡ dn (b +ℤ pos l) + (up b + l)
  bound-parts = omega (arith, parts_add b (pos l))

  pub half-met : turned turn e.bound ≤ℤ turned turn (sum e.terms a) → HalfMet turn e a
  unfolding s b l g
  half-met h = subst (λ (n : ℕ). n ≤ g) (sym (zero-up (b +ℤ pos l)))
      (⊎_elim (λ z. omega arith) (λ z. omega (arith, le-to h, sum-parts, bound-parts)) (one-part (b +ℤ pos l)))

  pub met-half : HalfMet turn e a → turned turn e.bound ≤ℤ turned turn (sum e.terms a)
  unfolding s b l g
  met-half h = le_from (omega (arith, subst (λ (n : ℕ). n ≤ g) (zero-up (b +ℤ pos l)) h, sum-parts, bound-parts))

-- ---- margins

sub-le : (x y : ℤ) → pos 0 ≤ℤ (x -ℤ y) → y ≤ℤ x
sub-le x y h = le_from (omega (arith, le-to h, parts_add x (neg_ℤ y), neg-parts y))

le-sub : (x y : ℤ) → y ≤ℤ x → pos 0 ≤ℤ (x -ℤ y)
le-sub x y h = le_from (omega (arith, le-to h, parts_add x (neg_ℤ y), neg-parts y))

neg-le : (x y : ℤ) → x ≤ℤ y → neg_ℤ y ≤ℤ neg_ℤ x
neg-le x y h = le_from (omega (arith, le-to h, neg-parts x, neg-parts y))

le-neg : (x y : ℤ) → neg_ℤ y ≤ℤ neg_ℤ x → x ≤ℤ y
le-neg x y h = le_from (omega (arith, le-to h, neg-parts x, neg-parts y))

-- minus a distance is 0 or more only where it is 0
apart : (x y : ℤ) → pos 0 ≤ℤ neg_ℤ (pos (nat_abs (x -ℤ y))) → (y ≤ℤ x) × (x ≤ℤ y)
apart x y h = (
  le_from (omega (arith, le-to h, neg-parts (pos (nat_abs (x -ℤ y))), abs-parts (x -ℤ y), parts_add x (neg_ℤ y), neg-parts y)),
  le_from (omega (arith, le-to h, neg-parts (pos (nat_abs (x -ℤ y))), abs-parts (x -ℤ y), parts_add x (neg_ℤ y), neg-parts y)),
)

together : (x y : ℤ) → y ≤ℤ x → x ≤ℤ y → pos 0 ≤ℤ neg_ℤ (pos (nat_abs (x -ℤ y)))
together x y h k = ⊎_elim (λ z. le_from (near z)) (λ z. le_from (near' z)) (one-part (x -ℤ y))
  where
    near : up (x -ℤ y) ≡ 0 → up (pos 0) + dn (neg_ℤ (pos (nat_abs (x -ℤ y)))) ≤ up (neg_ℤ (pos (nat_abs (x -ℤ y)))) + dn (pos 0)
    near z = omega (arith, le-to h, le-to k, neg-parts (pos (nat_abs (x -ℤ y))), abs-parts (x -ℤ y), parts_add x (neg_ℤ y), neg-parts y)

    near' : dn (x -ℤ y) ≡ 0 → up (pos 0) + dn (neg_ℤ (pos (nat_abs (x -ℤ y)))) ≤ up (neg_ℤ (pos (nat_abs (x -ℤ y)))) + dn (pos 0)
    near' z = omega (arith, le-to h, le-to k, neg-parts (pos (nat_abs (x -ℤ y))), abs-parts (x -ℤ y), parts_add x (neg_ℤ y), neg-parts y)

-- ---- RowMet

-- a margin by a kind that is known
margin-as : (e : Entry) (a : ℕ) {p q : Bool} → eqb e.kind 2 ≡ p → eqb e.kind 3 ≡ q
    → margin e a ≡ cond p (sum e.terms a -ℤ e.bound) (cond q (e.bound -ℤ sum e.terms a) (neg_ℤ (pos (nat_abs (sum e.terms a -ℤ e.bound)))))
margin-as e a {p} {q} h k =
    ap₂ (λ (x y : Bool). cond x (sum e.terms a -ℤ e.bound) (cond y (e.bound -ℤ sum e.terms a) (neg_ℤ (pos (nat_abs (sum e.terms a -ℤ e.bound)))))) h k

module _ (e : Entry) (a : ℕ) where
  -- what holding says by kind: the bound against the sum, plain, turned, or both
  pub record Held : Type 0 where
    pub plain : (e.kind ≡ 3 → ⊥) → e.bound ≤ℤ sum e.terms a
    pub turned_held : (e.kind ≡ 2 → ⊥) → sum e.terms a ≤ℤ e.bound

  margin-held : pos 0 ≤ℤ margin e a → 2 ≤ e.kind → e.kind ≤ 4 → Held
  margin-held h lo hi = record {
    plain = λ n. by-plain n e.kind refl lo hi;
    turned_held = λ n. by_turned n e.kind refl lo hi;
  }
    where
      at : (p q : Bool) → eqb e.kind 2 ≡ p → eqb e.kind 3 ≡ q → pos 0 ≤ℤ cond p (sum e.terms a -ℤ e.bound) (cond q (e.bound -ℤ sum e.terms a) (neg_ℤ (pos (nat_abs (sum e.terms a -ℤ e.bound)))))
      at p q x y = subst (λ (z : ℤ). pos 0 ≤ℤ z) (margin-as e a x y) h

      by-plain : (e.kind ≡ 3 → ⊥) → (k : ℕ) → e.kind ≡ k → 2 ≤ k → k ≤ 4 → e.bound ≤ℤ sum e.terms a
      by-plain n zero z l m = absurd (omega arith)
      by-plain n (suc zero) z l m = absurd (omega arith)
      by-plain n (suc (suc zero)) z l m = sub-le (sum e.terms a) e.bound (at true false (eq-eqb e.kind 2 z) (ne_eqb e.kind 3 n))
      by-plain n (suc (suc (suc zero))) z l m = absurd (n z)
      by-plain n (suc (suc (suc (suc k)))) z l m = (apart (sum e.terms a) e.bound (at false false (ne_eqb e.kind 2 (λ y. omega arith)) (ne_eqb e.kind 3 n))).0

      by_turned : (e.kind ≡ 2 → ⊥) → (k : ℕ) → e.kind ≡ k → 2 ≤ k → k ≤ 4 → sum e.terms a ≤ℤ e.bound
      by_turned n zero z l m = absurd (omega arith)
      by_turned n (suc zero) z l m = absurd (omega arith)
      by_turned n (suc (suc zero)) z l m = absurd (n z)
      by_turned n (suc (suc (suc zero))) z l m = sub-le e.bound (sum e.terms a) (at false true (ne_eqb e.kind 2 n) (eq-eqb e.kind 3 z))
      by_turned n (suc (suc (suc (suc k)))) z l m = (apart (sum e.terms a) e.bound (at false false (ne_eqb e.kind 2 n) (ne_eqb e.kind 3 (λ y. omega arith)))).1

  held-margin : Held → 2 ≤ e.kind → e.kind ≤ 4 → pos 0 ≤ℤ margin e a
  held-margin h lo hi = by e.kind refl lo hi
    where
      back : (p q : Bool) → eqb e.kind 2 ≡ p → eqb e.kind 3 ≡ q
          → pos 0 ≤ℤ cond p (sum e.terms a -ℤ e.bound) (cond q (e.bound -ℤ sum e.terms a) (neg_ℤ (pos (nat_abs (sum e.terms a -ℤ e.bound))))) → pos 0 ≤ℤ margin e a
      back p q x y z = subst (λ (w : ℤ). pos 0 ≤ℤ w) (sym (margin-as e a x y)) z

      by : (k : ℕ) → e.kind ≡ k → 2 ≤ k → k ≤ 4 → pos 0 ≤ℤ margin e a
      by zero z l m = absurd (omega arith)
      by (suc zero) z l m = absurd (omega arith)
      by (suc (suc zero)) z l m = back true false (eq-eqb e.kind 2 z) (ne_eqb e.kind 3 (λ y. omega arith)) (le-sub (sum e.terms a) e.bound (h.plain (λ y. omega arith)))
      by (suc (suc (suc zero))) z l m = back false true (ne_eqb e.kind 2 (λ y. omega arith)) (eq-eqb e.kind 3 z) (le-sub e.bound (sum e.terms a) (h.turned_held (λ y. omega arith)))
      by (suc (suc (suc (suc k)))) z l m =
          back false false (ne_eqb e.kind 2 (λ y. omega arith)) (ne_eqb e.kind 3 (λ y. omega arith)) (together (sum e.terms a) e.bound (h.plain (λ y. omega arith)) (h.turned_held (λ y. omega arith)))

  -- a row holds exactly where its half rows are met
  pub holds-met : 2 ≤ e.kind → e.kind ≤ 4 → holds e a ≡ true → RowMet e a
  holds-met lo hi h =
      let r = margin-held (le-true (pos 0) (margin e a) h) lo hi in
      record { plain = λ n. half-met false e a (r.plain n); turned_met = λ n. half-met true e a (neg-le (sum e.terms a) e.bound (r.turned_held n)) }

  pub met_holds : 2 ≤ e.kind → e.kind ≤ 4 → RowMet e a → holds e a ≡ true
  met_holds lo hi r = true-le (pos 0) (margin e a)
      (held-margin (record { plain = λ n. met-half false e a (r.plain n); turned_held = λ n. le-neg (sum e.terms a) e.bound (met-half true e a (r.turned_met n)) }) lo hi)
