-- R6: the charged bound and what is left at a variable on its dear side are at most the cost; beyond the cap, no wanted completion has it so.
use mathlib.Core.Path.{◌≡◌, ◌∙◌}
use mathlib.Core.Logic.{⊎_elim}
use mathlib.Core.List.{List}
use Prim.Native.Nat.{ℕ, ◌+◌, ◌-◌, ◌≤◌, ◌<◌}
use native.Mathlib.Nat.{le_refl}
use native.Mathlib.Omega.{arith}
use lib.ListN.{length, get_or}
use Rattle.charging.specs.declared.parts.Part.{Part}
use Rattle.charging.specs.declared.rows.Cost.{Cost}
use Rattle.charging.specs.declared.rows.Rows.{Rows}
use Rattle.charging.specs.Rows.{hit, of, gap, dear, Completes, cost, Costs}
use Rattle.charging.specs.Meets.{Charged}
use Rattle.charging.proofs.SumLaws.{sum-mono, hit-ne, eq-or}
use Rattle.charging.proofs.ChargeLaws.{rest-one}
use Rattle.narrowing.specs.Parts.{Leads, Maybe}
use Rattle.narrowing.proofs.PartLaws.{maybe-leads}
use Rattle.forcing.specs.Goals.{Under}

-- what is sure is a lower bound
pub cost-up : (n : ℕ) (y : ℕ → ℕ) (costs : List Cost) → Costs n costs → (x : ℕ → ℕ) → Completes n y x → cost costs y ≤ cost costs x
cost-up n y costs q x c = sum-mono (λ (v : ℕ). hit (y v) (dear costs v) (gap costs v)) (λ (v : ℕ). hit (x v) (dear costs v) (gap costs v)) (length costs) each
  where
    each : (v : ℕ) → v < length costs → hit (y v) (dear costs v) (gap costs v) ≤ hit (x v) (dear costs v) (gap costs v)
    each v l =
        let i : v < n = omega (arith, q.long) in
        ⊎_elim
        (λ e. let same : x v ≡ y v = c.agrees v i (λ z. omega (arith, q.two v i)) in rw same (le_refl (hit (y v) (dear costs v) (gap costs v))))
        (λ e. omega (arith, hit-ne (y v) (dear costs v) (gap costs v) e))
        (eq-or (y v) (dear costs v))

module _ (rows : Rows) (costs : List Cost) (cs : Costs rows.n costs) (m b : ℕ) (res : List ℕ) (p : Part) (ch : Charged rows costs (of p) b res) where
  -- R6
  pub force-more : (q r : Part) (v slack : ℕ) → v < rows.n → b + slack ≡ m → Leads rows.n (Under rows costs m) p q
      → Maybe rows.n q v (1 - dear costs v) (slack < get_or res v 0) r → Leads rows.n (Under rows costs m) p r
  force-more q r v slack l e a may =
      maybe-leads rows.n (Under rows costs m) p q v (1 - dear costs v) (slack < get_or res v 0) r a may l (omega arith)
      (λ why u x c wt z.
      let same : x v ≡ dear costs v = z ∙ flip (dear costs v) (cs.two v l) in
      let one = rest-one res costs x v (omega (arith, cs.long)) same in
      let two = ch.bound x c wt.meets in
      omega (arith, wt.under))
    where
      flip : (k : ℕ) → k < 2 → 1 - (1 - k) ≡ k
      flip k z = omega arith

  pub over : m < b → (x : ℕ → ℕ) → Completes rows.n (of p) x → Under rows costs m x → ⊥
  over l x c wt = let two = ch.bound x c wt.meets in omega (arith, wt.under)
