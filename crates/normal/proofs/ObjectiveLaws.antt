-- An objective in natural numbers: its cost differs from its value by what is the same for every assignment. Assumes nothing.
use mathlib.Core.Path.{◌≡◌, ap, ◌∙◌}
use mathlib.Core.Bool.{false}
use mathlib.Core.List.{List}
use Prim.Native.Nat.{ℕ, ◌+◌, ◌≤◌}
use native.Mathlib.Omega.{arith}
use lib.IntN.{ℤ, pos, ◌+ℤ◌}
use lib.Signed.{◌≤ℤ◌}
use Rattle.integers.proofs.SignedLaws.{up, dn, parts_add, le-to, le_from}
use Rattle.charging.specs.declared.rows.Cost.{Cost as CostOf}
use Rattle.charging.specs.Rows.{cost, bit}
use Rattle.instance.specs.Terms.{sum}
use Rattle.instance.specs.Meaning.{terms_at}
use Rattle.normal.specs.Halves.{lost_all}
use Rattle.normal.specs.Rows.{halves_at}
use Rattle.normal.specs.declared.costs.Sides.{Sides as SidesOf}
use Rattle.normal.specs.Costs.{base_of, Spread, Settled}
use Rattle.normal.proofs.HalfLaws.{halves-give}
use Rattle.normal.proofs.SettleLaws.{cost-sides}

-- the cost with what every assignment costs is the value with what was added
pub objective-cost : (ts : List ℤ) (first count n : ℕ) {sides : List SidesOf} {costs : List CostOf} → Spread ts first count n sides → Settled n sides costs
    → (a : ℕ) → pos (cost costs (bit a) + base_of n sides) ≡ sum (terms_at ts first count) a +ℤ pos (lost_all (halves_at ts first count false))
objective-cost ts first count n p s a = ap pos (cost-sides s a ∙ p.sums a) ∙ halves-give false (terms_at ts first count) a

-- so the order of costs is the order of values
module _ {x y : ℤ} (b l c e : ℕ) (p : pos (c + b) ≡ x +ℤ pos l) (q : pos (e + b) ≡ y +ℤ pos l) where
  pub cost-le : x ≤ℤ y → c ≤ e
  cost-le h = omega (arith, le-to h, ap up p, ap dn p, ap up q, ap dn q, parts_add x (pos l), parts_add y (pos l))

  pub value-le : c ≤ e → x ≤ℤ y
  value-le h = le_from (omega (arith, ap up p, ap dn p, ap up q, ap dn q, parts_add x (pos l), parts_add y (pos l)))
