-- Gaps and dear sides: an objective by what its variables cost on their dear sides. Assumes nothing.
use mathlib.Core.Path.{◌≡◌, refl, sym, ap, ◌∙◌, subst}
use mathlib.Core.Bool.{Bool, true, false, cond}
use mathlib.Core.List.{List}
use Prim.Native.Nat.{ℕ, zero, suc, ◌+◌, ◌-◌, ◌^◌, ◌≤◌, ◌<◌, min}
use native.Mathlib.Omega.{arith}
use native.Mathlib.Decide.{dec_lt}
use lib.Dec.{eqb, ltb}
use lib.ListN.{get_or}
use borrow.Author.Tests.{lt-ltb, le-ltb}
use Rattle.charging.specs.declared.rows.Cost.{Cost as CostOf}
use Rattle.charging.specs.Rows.{no_cost, pick, hit, span, gap, cost, bit, Costs}
use Rattle.charging.proofs.BitLaws.{bit-two}
use Rattle.normal.specs.declared.costs.Sides.{Sides as SidesOf}
use Rattle.normal.specs.Costs.{side_of, sides_of, sides_sum, base_of, gap_of, dear_of, Settled}

-- ---- Costs

gap-le : (z w m : ℕ) → z ≤ m → w ≤ m → gap_of z w ≤ m
gap-le z w m h l = by (ltb z w)
  where
    by : (t : Bool) → cond t (w - z) (z - w) ≤ m
    by true = omega arith
    by false = omega arith

dear-two : (z w : ℕ) → dear_of z w < 2
dear-two z w = by (ltb z w)
  where
    by : (t : Bool) → cond t 1 0 < 2
    by true = omega arith
    by false = omega arith

-- where no side is above m, no cost is
pub settled-small : {n : ℕ} {sides : List SidesOf} {costs : List CostOf} (m : ℕ) → Settled n sides costs → ((v b : ℕ) → side_of sides v b ≤ m)
    → (v : ℕ) → v < n → gap costs v ≤ m
settled-small {n} {sides} m s f v l = subst (λ (c : CostOf). c.gap ≤ m) (sym (s.each v l)) (gap-le (side_of sides v 0) (side_of sides v 1) m (f v 0) (f v 1))

pub settled-costs : {n : ℕ} {sides : List SidesOf} {costs : List CostOf} → Settled n sides costs → ((v b : ℕ) → side_of sides v b ≤ 2 ^ 34) → Costs n costs
settled-costs {n} {sides} s f = record {
  long = s.long;
  small = settled-small (2 ^ 34) s f;
  two = λ v l. subst (λ (c : CostOf). c.dear < 2) (sym (s.each v l)) (dear-two (side_of sides v 0) (side_of sides v 1));
}

-- ---- cost

-- on either side: the lesser cost of both, with the gap on the dear side
side : (z w b : ℕ) → b < 2 → pick (eqb b (dear_of z w)) (gap_of z w) 0 + min z w ≡ cond (eqb b 0) z w
side z w b h = by (dec_lt z w)
  where
    at : (t : Bool) → ltb z w ≡ t → pick (eqb b (cond t 1 0)) (cond t (w - z) (z - w)) 0 + min z w ≡ cond (eqb b 0) z w → pick (eqb b (dear_of z w)) (gap_of z w) 0 + min z w ≡ cond (eqb b 0) z w
    at t e q = ap (λ (s : Bool). pick (eqb b (cond s 1 0)) (cond s (w - z) (z - w)) 0 + min z w) e ∙ q

    less : z < w → (c : ℕ) → c < 2 → pick (eqb c 1) (w - z) 0 + min z w ≡ cond (eqb c 0) z w
    less l zero m = omega arith
    less l (suc zero) m = omega arith
    less l (suc (suc c)) m = absurd (omega arith)

    more : w ≤ z → (c : ℕ) → c < 2 → pick (eqb c 0) (z - w) 0 + min z w ≡ cond (eqb c 0) z w
    more l zero m = omega arith
    more l (suc zero) m = omega arith
    more l (suc (suc c)) m = absurd (omega arith)

    by : Dec (z < w) → pick (eqb b (dear_of z w)) (gap_of z w) 0 + min z w ≡ cond (eqb b 0) z w
    by (yes l) = at true (lt-ltb z w l) (less l b h)
    by (no l) = at false (le-ltb z w (omega arith)) (more (omega arith) b h)

hit-side : (z w b : ℕ) → b < 2 → hit b (dear_of z w) (gap_of z w) + min z w ≡ cond (eqb b 0) z w
unfolding hit
hit-side z w b h = side z w b h

-- two sums side by side
span-two : (f g e : ℕ → ℕ) (n : ℕ) → ((v : ℕ) → v < n → f v + g v ≡ e v) → span f 0 n + span g 0 n ≡ span e 0 n
unfolding span
span-two f g e zero h = refl
span-two f g e (suc n) h = omega (arith, span-two f g e n (λ v l. h v (omega arith)), ap f last, ap g last, ap e last, h n (omega arith))
  where
    last : 0 + n ≡ n
    last = omega arith

-- the cost on the dear sides, with what every assignment costs, is what the sides come to
pub cost-sides-of : {n : ℕ} {sides : List SidesOf} {costs : List CostOf} → Settled n sides costs → (x : ℕ → ℕ) → ((v : ℕ) → v < n → x v < 2) → cost costs x + base_of n sides ≡ sides_of n sides x
cost-sides-of {n} {sides} {costs} s x two =
    ap (λ (m : ℕ). span (λ (v : ℕ). hit (x v) (get_or costs v no_cost).dear (get_or costs v no_cost).gap) 0 m + base_of n sides) s.long
    ∙ span-two (λ (v : ℕ). hit (x v) (get_or costs v no_cost).dear (get_or costs v no_cost).gap) (λ (v : ℕ). min (side_of sides v 0) (side_of sides v 1))
    (λ (v : ℕ). side_of sides v (x v)) n (λ v l. each v l)
  where
    each : (v : ℕ) → v < n → hit (x v) (get_or costs v no_cost).dear (get_or costs v no_cost).gap + min (side_of sides v 0) (side_of sides v 1) ≡ side_of sides v (x v)
    each v l =
        ap (λ (c : CostOf). hit (x v) c.dear c.gap + min (side_of sides v 0) (side_of sides v 1)) (s.each v l)
        ∙ hit-side (side_of sides v 0) (side_of sides v 1) (x v) (two v l)

pub cost-sides : {n : ℕ} {sides : List SidesOf} {costs : List CostOf} → Settled n sides costs → (a : ℕ) → cost costs (bit a) + base_of n sides ≡ sides_sum n sides a
cost-sides s a = cost-sides-of s (bit a) (λ v l. bit-two a v)
