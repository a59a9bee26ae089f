-- Every completion of a part is one of its two children's, so two children without a wanted one leave none; a complete part completes itself.
use mathlib.Core.Path.{◌≡◌, refl, ap, sym, ◌∙◌}
use mathlib.Core.Logic.{⊎_elim}
use mathlib.Core.Bool.{Bool, true, false}
use Prim.Native.Nat.{ℕ, ◌-◌, ◌<◌}
use native.Mathlib.Omega.{arith}
use Rattle.std.specs.Bool.{then_some}
use Rattle.std.specs.Prelude.{Option, Some, None}
use Rattle.charging.specs.declared.parts.Part.{Part}
use Rattle.charging.specs.Rows.{bit, of, Completes, cost}
use Rattle.charging.proofs.SumLaws.{eq-or}
use Rattle.charging.proofs.BitLaws.{bit-two, seen-unset, seen-set}
use Rattle.narrowing.specs.Parts.{Put, Leads, Hopeless}
use Rattle.narrowing.proofs.PartLaws.{narrows-back}
use Rattle.forcing.specs.declared.goals.Goal.{Goal}
use Rattle.forcing.specs.Goals.{many, objective, cap_of}
use Rattle.forcing.proofs.ForceLaws.{cost-up}
use Rattle.finding.specs.Finding.{Branch, Finds, Tells, Cheap}

-- of two sides, what is not the one is the other
pub other : (a b : ℕ) → a < 2 → b < 2 → (a ≡ b → ⊥) → a ≡ 1 - b
other a b l m f = ⊎_elim (λ e. e) (λ e. absurd (f (omega (arith, e)))) (eq-or a (1 - b))

-- a complete part is the assignment whose number its word `one` is
pub number-part : (n : ℕ) (y : ℕ → ℕ) (r : Part) → Completes n y (of r) → (v : ℕ) → v < n → of r v ≡ bit r.one v
number-part n y r c v l =
    ⊎_elim (λ e. absurd (omega (arith, c.bits v l, seen-unset r.set r.one v e))) (λ e. seen-set r.set r.one v e) (eq-or (bit r.set v) 0)

pub number-completes : (n : ℕ) (y : ℕ → ℕ) (r : Part) → Completes n y (of r) → Completes n y (bit r.one) × Completes n (bit r.one) (of r)
number-completes n y r c =
    (record { bits = λ v l. bit-two r.one v; agrees = λ v l e. sym (number-part n y r c v l) ∙ c.agrees v l e }, record { bits = c.bits; agrees = λ v l e. number-part n y r c v l })

-- a part with all variables set completes itself
seen-two : (p : Part) (v : ℕ) → (of p v ≡ 2 → ⊥) → of p v < 2
seen-two p v f = ⊎_elim (λ e. absurd (f (seen-unset p.set p.one v e))) (λ e. rw (seen-set p.set p.one v e) (bit-two p.one v)) (eq-or (bit p.set v) 0)

pub whole_part : (n : ℕ) (p : Part) → ((u : ℕ) → u < n → of p u ≡ 2 → ⊥) → Completes n (of p) (of p)
whole_part n p f = record { bits = λ v l. seen-two p v (f v l); agrees = λ v l e. refl }

module _ (n : ℕ) (W : (ℕ → ℕ) → Type 0) where
  -- a child's completions are completions of its parent
  pub child-back : (p : Part) (v b : ℕ) (q : Part) → Put n p v b q → of p v ≡ 2 → (x : ℕ → ℕ) → Completes n (of q) x → Completes n (of p) x
  child-back p v b q t u x c =
      record { bits = c.bits; agrees = λ k l e. let o = t.others k (λ z. e (ap (of p) z ∙ u)) in c.agrees k l (λ z. e (sym o ∙ z)) ∙ o }

  pub child-keep : (p : Part) (v b : ℕ) (q : Part) → Put n p v b q → v < n → (x : ℕ → ℕ) → Completes n (of p) x → x v ≡ b → Completes n (of q) x
  child-keep p v b q t l x c e =
      record {
        bits = c.bits;
        agrees = λ k i z. ⊎_elim (λ y. ap x y ∙ e ∙ sym t.here ∙ ap (of q) (sym y)) (λ y. let o = t.others k y in c.agrees k i (λ f. z (o ∙ f)) ∙ sym o) (eq-or k v);
      }

  pub tells-no : (p : Part) → Hopeless n W p → Tells n W p false
  tells-no p f = record { yes = λ e. absurd (let z : ◌≡◌ {A = ℕ} 0 1 = cc in omega arith); no = λ _. f }

  module _ (p q : Part) (a : Leads n W p q) where
    pub finds-cut : (r : Option Part) → Finds n W q r → Finds n W p r
    finds-cut (Some r) f = record { completes = narrows-back n W (of p) (of q) a.narrows (of r) f.completes; wanted = f.wanted; fits = f.fits }
    finds-cut None f = λ x c w. f x (a.narrows.keep x c w) w

    -- a complete one that is wanted, or is not
    pub find-leaf : Branch n q None → (yes : Bool) → Tells n W q yes → Finds n W p (then_some yes q)
    find-leaf b true t = finds-cut (Some q) (record { completes = whole_part n q b; wanted = t.yes refl; fits = a.good.fits })
    find-leaf b false t = finds-cut None (t.no refl)

    module _ (v b : ℕ) (q₀ : Part) (u : of q v ≡ 2) (t₀ : Put n q v b q₀) where
      -- the first child has none
      pub find-two : (q₁ : Part) (r : Option Part) → v < n → b < 2 → Put n q v (1 - b) q₁ → Hopeless n W q₀ → Finds n W q₁ r → Finds n W p r
      find-two q₁ (Some r) l two t₁ none f =
          finds-cut (Some r) (record { completes = child-back q v (1 - b) q₁ t₁ u (of r) f.completes; wanted = f.wanted; fits = f.fits })
      find-two q₁ None l two t₁ none f =
          finds-cut None
          (λ x c w. ⊎_elim (λ z. none x (child-keep q v b q₀ t₀ l x c z) w) (λ z. f x (child-keep q v (1 - b) q₁ t₁ l x c (other (x v) b (c.bits v l) two z)) w) (eq-or (x v) b))

pub too-dear : (goal : Goal) (p : Part) (i : ℕ) → i < many goal → cap_of goal i < cost (objective goal i) (of p) → Hopeless goal.rows.n (Cheap goal) p
too-dear goal p i l h x c w = let u = cost-up goal.rows.n (of p) (objective goal i) (goal.priced.each i l) x c in let z = w i l in omega arith
