-- The front that is computed is the front, whatever is feasible and whatever the values: so there is one.
use mathlib.Core.Path.{◌≡◌, refl, sym, ap, subst, ◌∙◌}
use mathlib.Core.Logic.{◌⊎◌, inl, inr, ⊎_elim}
use mathlib.Core.Bool.{Bool, true, false, cond, ◌&&◌}
use mathlib.Core.List.Memᴰ
use mathlib.Core.List.{List, [], ◌∷◌, Memᴰ}
use Prim.Native.Nat.{ℕ, zero, suc, ◌+◌, ◌*◌, ◌/◌, ◌%◌, ◌^◌, ◌<◌}
use native.Mathlib.Decide.{dec_lt}
use native.Mathlib.Omega.{arith}
use lib.Dec.{leb, ltb}
use lib.IntN.{ℤ, pos}
use lib.ListN.{length}
use Rattle.instance.specs.Tests.{Decides}
use Rattle.points.specs.Vectors.{le_all, Dominates, lex, Lex}
use Rattle.points.specs.Fronts.{Candidate, StrictOrder, Covers, Rising, Covered, IsFront}
use Rattle.points.specs.Computed.{Candidates, covers, covered, uncovered, placed, added, added_if, front_below}
use Rattle.points.proofs.OrderLaws.{clash, lex-total, lex-trans}
use Rattle.points.proofs.FrontLaws.{rising-first, rising-rest, candidate-same}
use Rattle.points.proofs.CoverLaws.{covers_self, covers-trans, covers-either, dominates-covers, covers-decides, covered-decides, uncovered-member, uncovered-has, uncovered-rising}

-- ---- placed

-- A member of what c is put into is c or was there.
placed-member : (c : Candidate) (xs : List Candidate) (y : Candidate) → Memᴰ y (placed c xs) → (y ≡ c) ⊎ Memᴰ y xs
unfolding placed
placed-member c [] y m = Memᴰ.cases_cons m
placed-member c (x ∷ xs) y m = by (placed-member c xs y) (lex x.vector c.vector) m
  where
    by : (Memᴰ y (placed c xs) → (y ≡ c) ⊎ Memᴰ y xs) → (t : Bool) → Memᴰ y (cond t (x ∷ placed c xs) (c ∷ (x ∷ xs))) → (y ≡ c) ⊎ Memᴰ y (x ∷ xs)
    by f true n = ⊎_elim (λ e. inr (Memᴰ.head e)) (λ k. ⊎_elim inl (λ l. inr (Memᴰ.tail l)) (f k)) (Memᴰ.cases_cons n)
    by f false n = Memᴰ.cases_cons n

-- c is in it, and so is what was there.
placed-has : (c : Candidate) (xs : List Candidate) (y : Candidate) → (y ≡ c) ⊎ Memᴰ y xs → Memᴰ y (placed c xs)
unfolding placed
placed-has c [] y m = ⊎_elim Memᴰ.head (λ n. absurd (Memᴰ.not-nil n)) m
placed-has c (x ∷ xs) y m = by (placed-has c xs y) (lex x.vector c.vector)
  where
    by : ((y ≡ c) ⊎ Memᴰ y xs → Memᴰ y (placed c xs)) → (t : Bool) → Memᴰ y (cond t (x ∷ placed c xs) (c ∷ (x ∷ xs)))
    by f true = ⊎_elim (λ e. Memᴰ.tail (f (inl e))) (λ n. ⊎_elim Memᴰ.head (λ k. Memᴰ.tail (f (inr k))) (Memᴰ.cases_cons n)) m
    by f false = ⊎_elim Memᴰ.head Memᴰ.tail m

placed-rising : (c : Candidate) (xs : List Candidate) → Rising xs → ((y : Candidate) → Memᴰ y xs → Lex y.vector c.vector ⊎ Lex c.vector y.vector) → Rising (placed c xs)
unfolding placed Rising
placed-rising c [] r h = (λ y m. absurd (Memᴰ.not-nil m), tt)
placed-rising c (x ∷ xs) r h = by (placed-rising c xs (rising-rest x xs r) (λ y m. h y (Memᴰ.tail m))) (lex x.vector c.vector) refl
  where
    by : Rising (placed c xs) → (t : Bool) → lex x.vector c.vector ≡ t → Rising (cond t (x ∷ placed c xs) (c ∷ (x ∷ xs)))
    by s true e = (λ y m. ⊎_elim (λ p. subst (λ (z : Candidate). Lex x.vector z.vector) (sym p) e) (rising-first x xs r y) (placed-member c xs y m), s)
    by s false e =
        let l : Lex c.vector x.vector = ⊎_elim (λ k. clash k e) (λ k. k) (h x (Memᴰ.head refl)) in (
          λ y m.
              ⊎_elim (λ p. subst (λ (z : Candidate). Lex c.vector z.vector) (sym p) l)
              (λ n. lex-trans c.vector x.vector y.vector l (rising-first x xs r y n))
              (Memᴰ.cases_cons m),
          r,
        )

-- ---- added

-- D has the candidates of C and c, and their vectors have one length.
record OneMore (C D : Candidate → Type 0) (c : Candidate) : Type 0 where
  new : D c
  old : (x : Candidate) → C x → D x
  either : (x : Candidate) → D x → (x ≡ c) ⊎ C x
  wide : (x : Candidate) → C x → length x.vector ≡ length c.vector

module _ {Before : ℕ → ℕ → Type 0} (order : StrictOrder Before) (before : ℕ → ℕ → Bool) (decides : (a b : ℕ) → Decides (before a b) (Before a b)) where
  -- Where one of xs covers c, xs is the front of D. Else those that c does not cover stay, and c is put in its place. None of them has c's
  -- vector: one of the two would cover the other. Nor does one of the two dominate the other, as it would cover it. What one taken out
  -- covers, c covers.
  module _ {C D : Candidate → Type 0} (c : Candidate) (more : OneMore C D c) (xs : List Candidate) (f : IsFront C Before xs) where
    left_out : Covered Before xs c → IsFront D Before xs
    left_out p = record {
      members = λ x m. more.old x (f.members x m);
      rising = f.rising;
      apart = f.apart;
      complete = λ d h. ⊎_elim (λ e. subst (Covered Before xs) (sym e) p) (f.complete d) (more.either d h);
    }

    module _ (none : Covered Before xs c → ⊥) where
      none-covers : (x : Candidate) → Memᴰ x xs → Covers Before x c → ⊥
      none-covers x m h = none (record { by = x; member = m; covers = h })

      stays-apart : (y : Candidate) → Memᴰ y (uncovered before c xs) → Lex y.vector c.vector ⊎ Lex c.vector y.vector
      stays-apart y m =
          let p = uncovered-member before decides c xs y m in
          ⊎_elim inl
          (⊎_elim (λ e. absurd (⊎_elim (none-covers y p.0) p.1 (covers-either order y c e))) inr)
          (lex-total y.vector c.vector (more.wide y (f.members y p.0)))

      put_in : IsFront D Before (placed c (uncovered before c xs))
      put_in = record {
        members = λ x m.
            ⊎_elim (λ e. subst D (sym e) more.new) (λ n. more.old x (f.members x (uncovered-member before decides c xs x n).0)) (placed-member c (uncovered before c xs) x m);
        rising = placed-rising c (uncovered before c xs) (uncovered-rising before decides c xs f.rising) stays-apart;
        apart = λ x y m n d. apart x y (placed-member c (uncovered before c xs) x m) (placed-member c (uncovered before c xs) y n) d;
        complete = λ d h. ⊎_elim (λ e. by-new d (subst (Covers Before c) (sym e) (covers_self order c))) (λ k. by_old d (f.complete d k) (covers before c (f.complete d k).by) refl) (more.either d h);
      }
        where
          apart : (x y : Candidate) → (x ≡ c) ⊎ Memᴰ x (uncovered before c xs) → (y ≡ c) ⊎ Memᴰ y (uncovered before c xs) → Dominates x.vector y.vector → ⊥
          apart x y (inl p) (inl q) d = d.differs (ap (λ (z : Candidate). z.vector) (p ∙ sym q))
          apart x y (inl p) (inr n) d = (uncovered-member before decides c xs y n).1 (subst (λ (z : Candidate). Covers Before z y) p (dominates-covers x y d))
          apart x y (inr m) (inl q) d = none-covers x (uncovered-member before decides c xs x m).0 (subst (Covers Before x) q (dominates-covers x y d))
          apart x y (inr m) (inr n) d = f.apart x y (uncovered-member before decides c xs x m).0 (uncovered-member before decides c xs y n).0 d

          by-new : (d : Candidate) → Covers Before c d → Covered Before (placed c (uncovered before c xs)) d
          by-new d h = record { by = c; member = placed-has c (uncovered before c xs) c (inl refl); covers = h }

          by_old : (d : Candidate) (p : Covered Before xs d) (t : Bool) → covers before c p.by ≡ t → Covered Before (placed c (uncovered before c xs)) d
          by_old d p true e = by-new d (covers-trans order c p.by d ((covers-decides before decides c p.by).yes e) p.covers)
          by_old d p false e = record {
            by = p.by;
            member = placed-has c (uncovered before c xs) p.by (inr (uncovered-has before decides c xs p.by p.member e));
            covers = p.covers;
          }

    added-front : IsFront D Before (added before c xs)
    unfolding added
    added-front = by (covered before xs c) refl
      where
        by : (t : Bool) → covered before xs c ≡ t → IsFront D Before (cond t xs (placed c (uncovered before c xs)))
        by true e = left_out ((covered-decides before decides xs c).yes e)
        by false e = put_in ((covered-decides before decides xs c).no e)

  -- ---- front_below
  module _ (feasible : ℕ → Bool) (value : ℕ → List ℤ) (width : ℕ) (wide : (a : ℕ) → length (value a) ≡ width) where
    -- Assignment n with its value.
    abbrev valued : ℕ → Candidate
    valued n = record { vector = value n; model = n }

    below_more : (n : ℕ) (x : Candidate) → Candidates feasible value n x → Candidates feasible value (suc n) x
    below_more n x h = record { fits = omega (arith, h.fits); feasible_is = h.feasible_is; value_is = h.value_is }

    -- A candidate below suc n is below n, or it is n with its value.
    below-either : (n : ℕ) (x : Candidate) → Candidates feasible value (suc n) x → (x ≡ valued n) ⊎ Candidates feasible value n x
    below-either n x h = by (dec_lt x.model n)
      where
        by : Dec (x.model < n) → (x ≡ valued n) ⊎ Candidates feasible value n x
        by (yes l) = inr (record { fits = l; feasible_is = h.feasible_is; value_is = h.value_is })
        by (no l) = let e : x.model ≡ n = omega (arith, l, h.fits) in inl (candidate-same (h.value_is ∙ ap value e) e)

    -- Assignment n is added to the front of those below n where it is feasible.
    pub front-below : (n : ℕ) → IsFront (Candidates feasible value n) Before (front_below feasible value before n)
    unfolding front_below added_if Rising
    front-below zero = record {
      members = λ x m. absurd (Memᴰ.not-nil m);
      rising = tt;
      apart = λ x y m. absurd (Memᴰ.not-nil m);
      complete = λ c h. absurd (omega (arith, h.fits));
    }
    front-below (suc n) = by (feasible n) refl (front-below n)
      where
        xs : List Candidate
        xs = front_below feasible value before n

        by : (t : Bool) → feasible n ≡ t → IsFront (Candidates feasible value n) Before xs → IsFront (Candidates feasible value (suc n)) Before (added_if before t (valued n) xs)
        by true e f =
            added-front (valued n)
            (record {
              new = record { fits = omega arith; feasible_is = e; value_is = refl };
              old = below_more n;
              either = below-either n;
              wide = λ x h. ap length h.value_is ∙ wide x.model ∙ sym (wide n);
            })
            xs
            f
        by false e f = record {
          members = λ x m. below_more n x (f.members x m);
          rising = f.rising;
          apart = f.apart;
          complete = λ c h.
              f.complete c
              (⊎_elim (λ s. clash h.feasible_is (ap (λ (x : Candidate). feasible x.model) s ∙ e)) (λ k. k) (below-either n c h));
        }

-- ---- an example: 3 x1 + x2 + 2 x3 and x1 + 4 x2 + 2 x3 where x1 + x2 >= 1 and x2 + x3 >= 1
abbrev bit : ℕ → ℕ → ℕ
bit a j = (a / 2 ^ j) % 2

abbrev example_feasible : ℕ → Bool
example_feasible a = leb 1 (bit a 0 + bit a 1) && leb 1 (bit a 1 + bit a 2)

abbrev example_value : ℕ → List ℤ
example_value a = pos (3 * bit a 0 + bit a 1 + 2 * bit a 2) ∷ (pos (bit a 0 + 4 * bit a 1 + 2 * bit a 2) ∷ [])

-- Its front is (1, 4) with x2 alone set and (5, 3) with x1 and x3 set.
pub example-front : front_below example_feasible example_value ltb 8 ≡ (record { vector = pos 1 ∷ (pos 4 ∷ []); model = 2 } ∷ (record { vector = pos 5 ∷ (pos 3 ∷ []); model = 5 } ∷ []))
unfolding front_below added_if added placed uncovered covered covers le_all lex
example-front = refl
