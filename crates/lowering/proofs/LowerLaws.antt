-- Settling the variables from the highest down. Where the known witness has v off, its high bits are least with v off too. Where it has v on,
-- a wanted one with v off under the same higher bits takes its place; and where there is none, v on is the least that these higher bits allow.
use mathlib.Core.Path.{◌≡◌, refl, ap, sym, ◌∙◌}
use mathlib.Core.Logic.{⊎_elim}
use Prim.Native.Nat.{ℕ, ◌+◌, ◌-◌, ◌/◌, ◌^◌, ◌≤◌, ◌<◌}
use native.Mathlib.Nat.{div-one}
use native.Mathlib.Omega.{arith}
use Rattle.charging.specs.declared.parts.Part.{Part}
use Rattle.charging.specs.Rows.{bit, of, Completes}
use Rattle.charging.proofs.SumLaws.{eq-or, lt-or}
use Rattle.charging.proofs.BitLaws.{bit-two}
use Rattle.charging.proofs.ChargeLaws.{reach-up}
use Rattle.narrowing.specs.Parts.{Put}
use Rattle.forcing.specs.declared.goals.Goal.{Goal}
use Rattle.forcing.specs.Goals.{objective, Wanted}
use Rattle.forcing.proofs.ForceLaws.{cost-up}
use Rattle.lowering.specs.Smallest.{Smallest, Lowered}
use Rattle.lowering.proofs.NumberLaws.{number_step, number-bits, number_same}

-- what a wanted completion says of the variables that y sets
pub wanted-down : (goal : Goal) (y x : ℕ → ℕ) → Completes goal.rows.n y x → Wanted goal x → Wanted goal y
wanted-down goal y x c u =
    record {
      meets = λ h l. omega (arith, reach-up goal.rows y x c h l, u.meets h l);
      under = λ i l. omega (arith, cost-up goal.rows.n y (objective goal i) (goal.priced.each i l) x c, u.under i l);
    }

module _ (n : ℕ) (W : (ℕ → ℕ) → Type 0) where
  pub lowered-end : (p : Part) (a : ℕ) → Lowered n W 0 p a → Smallest n W a
  lowered-end p a o =
      record { wanted = o.wanted; fits = o.fits; least = λ x l y. omega (arith, o.least x l y, div-one a, div-one x) }

  -- the variable v at b
  module _ (v : ℕ) (p : Part) (a : ℕ) (o : Lowered n W (v + 1) p a) (b : ℕ) (q : Part) (t : Put n p v b q) where
    put-below : (u : ℕ) → u < v → of q u ≡ 2
    put-below u l = t.others u (λ e. omega arith) ∙ o.below u (omega arith)

    put-above : (x : ℕ) → bit x v ≡ b → ((u : ℕ) → v + 1 ≤ u → u < n → bit x u ≡ bit a u) → (u : ℕ) → v ≤ u → u < n → of q u ≡ bit x u
    put-above x e f u l m =
        ⊎_elim (λ z. ap (of q) z ∙ t.here ∙ sym e ∙ ap (bit x) (sym z)) (λ z. t.others u z ∙ o.above u (omega (arith, z)) m ∙ sym (f u (omega (arith, z)) m)) (eq-or u v)

    pub lowered-off : b ≡ 0 → bit a v ≡ 0 → Lowered n W v q a
    lowered-off z e =
        record {
          good = t.good;
          below = put-below;
          above = put-above a (e ∙ sym z) (λ u l m. refl);
          wanted = o.wanted;
          fits = o.fits;
          least = λ x l y. omega (arith, o.least x l y, number_step a v, number_step x v);
        }

    -- a wanted one that completes q, numbered x, takes the place of a
    pub lowered-found : b ≡ 0 → v < n → (x : ℕ) → x < 2 ^ n → Completes n (of q) (bit x) → W (bit x) → Lowered n W v q x
    lowered-found z i x f c w =
        record {
          good = t.good;
          below = put-below;
          above = put-above x here high;
          wanted = w;
          fits = f;
          least = λ y l u. omega (arith, o.least y l u, number_step x v, number_step y v, here, same);
        }
      where
        here : bit x v ≡ b
        here = c.agrees v i (λ e. let h = t.here in omega arith) ∙ t.here

        high : (u : ℕ) → v + 1 ≤ u → u < n → bit x u ≡ bit a u
        high u l m =
            let e : of q u ≡ bit a u = t.others u (λ y. omega arith) ∙ o.above u l m in
            c.agrees u m (λ y. omega (arith, bit-two a u)) ∙ e

        same : x / 2 ^ (v + 1) ≡ a / 2 ^ (v + 1)
        same =
            let s : v + 1 + (n - (v + 1)) ≡ n = omega arith in
            number_same (n - (v + 1)) (v + 1) x a (rw s f) (rw s o.fits) (λ u l m. high u l (omega arith))

    -- no wanted one completes p with v off
    pub lowered-on : b ≡ 1 → v < n → bit a v ≡ 1 → (r : Part) → Put n p v 0 r → ((x : ℕ → ℕ) → Completes n (of r) x → W x → ⊥) → Lowered n W v q a
    lowered-on z i e r s none =
        record {
          good = t.good;
          below = put-below;
          above = put-above a (e ∙ sym z) (λ u l m. refl);
          wanted = o.wanted;
          fits = o.fits;
          least = λ x l y.
              ⊎_elim (λ h. let k = on x y h in omega (arith, number_step a v, number_step x v)) (λ h. omega (arith, o.least x l y, number_step a v, number_step x v))
              (eq-or (a / 2 ^ (v + 1)) (x / 2 ^ (v + 1)));
        }
      where
        completes : (x : ℕ) → a / 2 ^ (v + 1) ≡ x / 2 ^ (v + 1) → bit x v ≡ 0 → Completes n (of r) (bit x)
        completes x h f =
            record {
              bits = λ u l. bit-two x u;
              agrees = λ u l g.
                  ⊎_elim (λ y. ap (bit x) y ∙ f ∙ sym s.here ∙ ap (of r) (sym y))
                  (λ y. let k : v + 1 ≤ u = higher u y g in sym (number-bits a x (v + 1) u h k) ∙ sym (o.above u k l) ∙ sym (s.others u y)) (eq-or u v);
            }
          where
            higher : (u : ℕ) → (u ≡ v → ⊥) → (of r u ≡ 2 → ⊥) → v + 1 ≤ u
            higher u y g = ⊎_elim (λ m. absurd (g (s.others u y ∙ o.below u (omega arith)))) (λ m. omega (arith, m, y)) (lt-or u v)

        on : (x : ℕ) → W (bit x) → a / 2 ^ (v + 1) ≡ x / 2 ^ (v + 1) → bit x v ≡ 1
        on x y h = ⊎_elim (λ f. absurd (none (bit x) (completes x h f) y)) (λ f. omega (arith, bit-two x v, f)) (eq-or (bit x v) 0)
