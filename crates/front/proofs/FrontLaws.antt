-- Every instance has a front: the one that is computed. Assumes nothing.
use mathlib.Core.Path.{◌≡◌, refl}
use mathlib.Core.Logic.{◌⊎◌, inl, inr}
use mathlib.Core.List.{List}
use Prim.Native.Nat.{ℕ, ◌^◌, ◌<◌}
use native.Mathlib.Omega.{arith}
use native.Mathlib.Decide.{dec_lt}
use borrow.Author.Tests.{ltb-true, ltb-false, eqb-true, eq-eqb}
use lib.Dec.{eqb, ltb}
use Rattle.instance.specs.Tests.{Decides}
use Rattle.instance.specs.Meaning.{Instance, vector}
use Rattle.judge.specs.Judging.{first_unmet, padded}
use Rattle.judge.proofs.UnmetLaws.{feasible-unmet, unmet-feasible}
use Rattle.points.specs.Fronts.{Candidate, StrictOrder, IsFront}
use Rattle.points.specs.Computed.{Candidates}
use Rattle.points.proofs.FrontLaws.{front-unique}
use Rattle.points.proofs.ComputedLaws.{front-below}
use Rattle.front.specs.Listing.{CandidateOf, Smaller, FrontOf}
use Rattle.front.specs.Computed.{front_of}

-- ---- Smaller
pub smaller-order : StrictOrder Smaller
smaller-order = record {
  never = λ a h. omega arith;
  chain = λ a b c h l. omega arith;
  either = λ a b. by a b (dec_lt a b) (dec_lt b a);
}
  where
    by : (a b : ℕ) → Dec (a < b) → Dec (b < a) → (a < b) ⊎ ((a ≡ b) ⊎ (b < a))
    by a b (yes h) l = inl h
    by a b (no h) (yes l) = inr (inr l)
    by a b (no h) (no l) = inr (inl (omega arith))

smaller-decides : (a b : ℕ) → Decides (ltb a b) (Smaller a b)
smaller-decides a b = record { yes = λ e. ltb-true a b e; no = λ e h. omega (arith, ltb-false a b e) }

-- ---- IsFront
-- A front of candidates is one of the same candidates told otherwise.
front-as : {C D : Candidate → Type 0} {Before : ℕ → ℕ → Type 0} {xs : List Candidate} → ((c : Candidate) → C c → D c) → ((c : Candidate) → D c → C c) → IsFront C Before xs → IsFront D Before xs
front-as f g h = record { members = λ x m. f x (h.members x m); rising = h.rising; apart = h.apart; complete = λ c d. h.complete c (g c d) }

-- ---- FrontOf
module _ (i : Instance) where
  pub front-of : FrontOf i (front_of i)
  front-of = front-as there back (front-below smaller-order ltb smaller-decides (λ a. eqb (first_unmet i.rows a) 0) (λ a. padded (vector i a)) 4 (λ a. refl) (2 ^ i.variables))
    where
      there : (c : Candidate) → Candidates (λ a. eqb (first_unmet i.rows a) 0) (λ a. padded (vector i a)) (2 ^ i.variables) c → CandidateOf i c
      there c p = record { feasible = unmet-feasible i c.model p.fits (eqb-true (first_unmet i.rows c.model) 0 p.feasible_is); has_vector = p.value_is }

      back : (c : Candidate) → CandidateOf i c → Candidates (λ a. eqb (first_unmet i.rows a) 0) (λ a. padded (vector i a)) (2 ^ i.variables) c
      back c p = record { fits = p.feasible.bits; feasible_is = eq-eqb (first_unmet i.rows c.model) 0 (feasible-unmet i c.model p.feasible); value_is = p.has_vector }

  pub front-only : {xs ys : List Candidate} → FrontOf i xs → FrontOf i ys → xs ≡ ys
  front-only f g = front-unique smaller-order f g
