-- One candidate covers another: a partial order, the test for it, and those of a list that cover a candidate or that it does not cover.
use mathlib.Core.Path.{◌≡◌, refl, sym, ap, subst, ◌∙◌}
use mathlib.Core.Logic.{◌⊎◌, inl, inr, ⊎_elim}
use mathlib.Core.Bool.{Bool, true, false, cond, not, ◌&&◌, ◌||◌}
use mathlib.Core.List.Memᴰ
use mathlib.Core.List.{List, [], ◌∷◌, Memᴰ}
use Prim.Native.Nat.{ℕ}
use lib.IntN.{ℤ}
use Rattle.instance.specs.Tests.{Decides}
use Rattle.points.specs.Vectors.{le_all, LeAll, Dominates}
use Rattle.points.specs.Fronts.{Candidate, StrictOrder, Covers, Rising, Covered}
use Rattle.points.specs.Computed.{covers, covered, uncovered}
use Rattle.points.proofs.OrderLaws.{clash, le_all-refl, le_all-trans, le_all-antisym}
use Rattle.points.proofs.FrontLaws.{rising-first, rising-rest}

-- ---- Covers
module _ {Before : ℕ → ℕ → Type 0} (order : StrictOrder Before) where
  pub covers_self : (x : Candidate) → Covers Before x x
  covers_self x = record { at_most = le_all-refl x.vector; first = λ e. order.never x.model }

  -- Where x and z have one vector y has it too. y's assignment is not before x's; were z's before x's it would be before y's.
  pub covers-trans : (x y z : Candidate) → Covers Before x y → Covers Before y z → Covers Before x z
  covers-trans x y z p q = record {
    at_most = le_all-trans x.vector y.vector z.vector p.at_most q.at_most;
    first = λ e h.
        let v : x.vector ≡ y.vector =
        le_all-antisym x.vector y.vector p.at_most (subst (λ (w : List ℤ). LeAll y.vector w) (sym e) q.at_most)
        in
        let k : Before z.model y.model → ⊥ = q.first (sym v ∙ e) in
        ⊎_elim (p.first v)
        (⊎_elim (λ s. k (subst (Before z.model) (sym s) h)) (λ s. k (order.chain z.model x.model y.model h s)))
        (order.either y.model x.model);
  }

  -- Of two with one vector one covers the other.
  pub covers-either : (x y : Candidate) → x.vector ≡ y.vector → Covers Before x y ⊎ Covers Before y x
  covers-either x y e =
      ⊎_elim (λ h. inl (one (λ k. order.never x.model (order.chain x.model y.model x.model h k))))
      (⊎_elim (λ s. inl (one (λ k. order.never x.model (subst (λ (m : ℕ). Before m x.model) (sym s) k))))
      (λ h. inr (two (λ k. order.never x.model (order.chain x.model y.model x.model k h)))))
      (order.either x.model y.model)
    where
      one : (Before y.model x.model → ⊥) → Covers Before x y
      one f = record { at_most = subst (λ (w : List ℤ). LeAll x.vector w) e (le_all-refl x.vector); first = λ _. f }

      two : (Before x.model y.model → ⊥) → Covers Before y x
      two f = record { at_most = subst (λ (w : List ℤ). LeAll w x.vector) e (le_all-refl x.vector); first = λ _. f }

pub dominates-covers : {Before : ℕ → ℕ → Type 0} (x y : Candidate) → Dominates x.vector y.vector → Covers Before x y
dominates-covers x y d = record { at_most = d.at_most; first = λ e. absurd (d.differs e) }

-- ---- covers
module _ {Before : ℕ → ℕ → Type 0} (before : ℕ → ℕ → Bool) (decides : (a b : ℕ) → Decides (before a b) (Before a b)) where
  -- Two vectors are equal where each is at most the other.
  pub covers-decides : (x c : Candidate) → Decides (covers before x c) (Covers Before x c)
  unfolding covers
  covers-decides x c = by (le_all x.vector c.vector) refl (le_all c.vector x.vector) refl (before c.model x.model) refl
    where
      by : (s : Bool) → le_all x.vector c.vector ≡ s → (t : Bool) → le_all c.vector x.vector ≡ t → (u : Bool) → before c.model x.model ≡ u → Decides (s && not (t && u)) (Covers Before x c)
      by false e t f u g = record { yes = λ h. clash h refl; no = λ h k. clash k.at_most e }
      by true e false f u g = record {
        yes = λ h. record { at_most = e; first = λ v. clash (subst (λ (w : List ℤ). LeAll w x.vector) v (le_all-refl x.vector)) f };
        no = λ h k. clash refl h;
      }
      by true e true f true g = record {
        yes = λ h. clash h refl;
        no = λ h k. k.first (le_all-antisym x.vector c.vector e f) ((decides c.model x.model).yes g);
      }
      by true e true f false g = record {
        yes = λ h. record { at_most = e; first = λ v. (decides c.model x.model).no g };
        no = λ h k. clash refl h;
      }

  -- ---- covered
  pub covered-decides : (xs : List Candidate) (c : Candidate) → Decides (covered before xs c) (Covered Before xs c)
  unfolding covered
  covered-decides [] c = record { yes = λ e. clash e refl; no = λ e p. Memᴰ.not-nil p.member }
  covered-decides (x ∷ xs) c = by (covers before x c) refl (covered-decides xs c)
    where
      by : (t : Bool) → covers before x c ≡ t → Decides (covered before xs c) (Covered Before xs c) → Decides (t || covered before xs c) (Covered Before (x ∷ xs) c)
      by true e d = record { yes = λ h. record { by = x; member = Memᴰ.head refl; covers = (covers-decides x c).yes e }; no = λ h p. clash refl h }
      by false e d = record {
        yes = λ h. let p = d.yes h in record { by = p.by; member = Memᴰ.tail p.member; covers = p.covers };
        no = λ h p.
            ⊎_elim (λ s. (covers-decides x c).no e (subst (λ (z : Candidate). Covers Before z c) s p.covers))
            (λ m. d.no h (record { by = p.by; member = m; covers = p.covers }))
            (Memᴰ.cases_cons p.member);
      }

  -- ---- uncovered
  -- One that stays was listed, and c does not cover it.
  pub uncovered-member : (c : Candidate) (xs : List Candidate) (y : Candidate) → Memᴰ y (uncovered before c xs) → Memᴰ y xs × (Covers Before c y → ⊥)
  unfolding uncovered
  uncovered-member c [] y m = absurd (Memᴰ.not-nil m)
  uncovered-member c (x ∷ xs) y m = by (λ n. let p = uncovered-member c xs y n in (Memᴰ.tail p.0, p.1)) (covers before c x) refl m
    where
      by : (Memᴰ y (uncovered before c xs) → Memᴰ y (x ∷ xs) × (Covers Before c y → ⊥)) → (t : Bool) → covers before c x ≡ t
          → Memᴰ y (cond t (uncovered before c xs) (x ∷ uncovered before c xs)) → Memᴰ y (x ∷ xs) × (Covers Before c y → ⊥)
      by f true e n = f n
      by f false e n =
          ⊎_elim (λ s. (Memᴰ.head s, λ k. (covers-decides c x).no e (subst (Covers Before c) s k))) f (Memᴰ.cases_cons n)

  pub uncovered-has : (c : Candidate) (xs : List Candidate) (y : Candidate) → Memᴰ y xs → covers before c y ≡ false → Memᴰ y (uncovered before c xs)
  unfolding uncovered
  uncovered-has c [] y m h = absurd (Memᴰ.not-nil m)
  uncovered-has c (x ∷ xs) y m h = by (λ n. uncovered-has c xs y n h) (covers before c x) refl (Memᴰ.cases_cons m)
    where
      by : (Memᴰ y xs → Memᴰ y (uncovered before c xs)) → (t : Bool) → covers before c x ≡ t → (y ≡ x) ⊎ Memᴰ y xs → Memᴰ y (cond t (uncovered before c xs) (x ∷ uncovered before c xs))
      by f true e (inl s) = clash e (ap (covers before c) (sym s) ∙ h)
      by f true e (inr n) = f n
      by f false e (inl s) = Memᴰ.head s
      by f false e (inr n) = Memᴰ.tail (f n)

  pub uncovered-rising : (c : Candidate) (xs : List Candidate) → Rising xs → Rising (uncovered before c xs)
  unfolding uncovered Rising
  uncovered-rising c [] r = tt
  uncovered-rising c (x ∷ xs) r = by (uncovered-rising c xs (rising-rest x xs r)) (covers before c x)
    where
      by : Rising (uncovered before c xs) → (t : Bool) → Rising (cond t (uncovered before c xs) (x ∷ uncovered before c xs))
      by s true = s
      by s false = (λ y m. rising-first x xs r y (uncovered-member c xs y m).0, s)
