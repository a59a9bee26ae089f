-- A front is listed point after point: nothing is how it begins, what comes next is added at the end, and where no candidate is fresh it is whole.
-- What has been listed is then the front's first points, and where a candidate is fresh the front has more.
use mathlib.Core.Path.{◌≡◌, refl, sym, subst, ◌∙◌}
use mathlib.Core.Logic.{◌⊎◌, inl, inr, ⊎_elim}
use mathlib.Core.Bool.{Bool, true, false}
use mathlib.Core.List.{List, [], ◌∷◌, ◌++◌, Memᴰ}
use Prim.Native.Nat.{ℕ, ◌<◌}
use native.Mathlib.Decide.{dec_lt}
use native.Mathlib.Omega.{arith}
use lib.IntN.{ℤ}
use lib.ListN.{length, take}
use lib.Seq.{take_all}
use Rattle.points.specs.Vectors.{le_all, LeAll, Dominates, Lex}
use Rattle.points.specs.Fronts.{Candidate, StrictOrder, Rising, IsFront, Fresh, Begins, ComesNext}
use Rattle.points.proofs.OrderLaws.{clash, lex-total, le_all-refl, le_all-trans, le_all-antisym, le_all-lex}
use Rattle.points.proofs.FrontLaws.{rising-first, rising-rest, rising-same, rising-take, Within, After, GoesOn, candidate-same, apart-same, front_same}

-- ---- Fresh

-- The list has a candidate that is at most c in every place.
record Reached (xs : List Candidate) (c : Candidate) : Type 0 where
  by : Candidate
  member : Memᴰ by xs
  at_most : LeAll by.vector c.vector

-- Where c is not fresh the list has one at most c: the list is searched.
fresh-or : (xs : List Candidate) (c : Candidate) → Reached xs c ⊎ Fresh xs c
fresh-or [] c = inr (λ x m h. mathlib.Core.List.Memᴰ.not-nil m)
fresh-or (x ∷ xs) c = step (fresh-or xs c) (le_all x.vector c.vector) refl
  where
    step : Reached xs c ⊎ Fresh xs c → (t : Bool) → le_all x.vector c.vector ≡ t → Reached (x ∷ xs) c ⊎ Fresh (x ∷ xs) c
    step r true e = inl (record { by = x; member = mathlib.Core.List.Memᴰ.head refl; at_most = e })
    step (inl r) false e = inl (record { by = r.by; member = mathlib.Core.List.Memᴰ.tail r.member; at_most = r.at_most })
    step (inr f) false e =
        inr (λ y m h. ⊎_elim (λ p. clash (subst (λ (z : Candidate). LeAll z.vector c.vector) p h) e) (λ n. f y n h) (mathlib.Core.List.Memᴰ.cases_cons m))

-- ---- one more at the end
more-each : {P : Candidate → Type 0} (xs : List Candidate) (x : Candidate) → ((y : Candidate) → Memᴰ y xs → P y) → P x → (y : Candidate) → Memᴰ y (xs ++ (x ∷ [])) → P y
more-each {P} xs x f p y m = ⊎_elim (f y) (λ n. subst P (sym (mathlib.Core.List.Memᴰ.eq_of_singleton n)) p) (mathlib.Core.List.Memᴰ.append_cases xs m)

rising-more : (xs : List Candidate) (x : Candidate) → Rising xs → After xs x → Rising (xs ++ (x ∷ []))
unfolding Rising
rising-more [] x r a = (λ y m. absurd (mathlib.Core.List.Memᴰ.not-nil m), tt)
rising-more (z ∷ zs) x r a = (
  more-each {P = λ y. Lex z.vector y.vector} zs x (rising-first z zs r) (a z (mathlib.Core.List.Memᴰ.head refl)),
  rising-more zs x (rising-rest z zs r) (λ y m. a y (mathlib.Core.List.Memᴰ.tail m)),
)

-- ---- Begins
module _ {C : Candidate → Type 0} {Before : ℕ → ℕ → Type 0} where
  pub begins-none : Begins C Before []
  unfolding Rising
  begins-none = record {
    members = λ x m. absurd (mathlib.Core.List.Memᴰ.not-nil m);
    rising = tt;
    apart = λ x y m n d. mathlib.Core.List.Memᴰ.not-nil m;
    first = λ x c m d e h. mathlib.Core.List.Memᴰ.not-nil m;
    after = λ c d f x m. absurd (mathlib.Core.List.Memᴰ.not-nil m);
  }

  module _ (width : ℕ) (wide : (c : Candidate) → C c → length c.vector ≡ width) where
    -- A candidate that is fresh of the longer list is fresh of xs. It is not before x, as x is the least that is fresh, and it does not have x's
    -- vector, as x would be at most it: so it comes after x.
    next-before : (xs : List Candidate) (x : Candidate) → ComesNext C Before xs x → (c : Candidate) → C c → Fresh (xs ++ (x ∷ [])) c → Lex x.vector c.vector
    next-before xs x n c d f =
        ⊎_elim (λ l. l)
        (⊎_elim
        (λ e. absurd (f x (mathlib.Core.List.Memᴰ.append_right xs (mathlib.Core.List.Memᴰ.head refl)) (subst (λ (v : List ℤ). LeAll x.vector v) e (le_all-refl x.vector))))
        (λ l. absurd (n.least c d (λ y m. f y (mathlib.Core.List.Memᴰ.append_left (x ∷ []) m)) l)))
        (lex-total x.vector c.vector (wide x n.member ∙ sym (wide c d)))

    -- x is fresh, so it comes after all of xs: the list rises. One of xs does not dominate x, as x is fresh; were x to dominate y of xs it would
    -- not come after y. A candidate that is fresh of the longer list comes after all of xs, being fresh of xs, and after x.
    pub begins-more : (xs : List Candidate) (x : Candidate) → Begins C Before xs → ComesNext C Before xs x → Begins C Before (xs ++ (x ∷ []))
    begins-more xs x b n = record {
      members = more-each {P = C} xs x b.members n.member;
      rising = rising-more xs x b.rising (b.after x n.member n.fresh);
      apart = λ y z m k.
          more-each {P = λ w. Dominates w.vector z.vector → ⊥} xs x
          (λ w l. more-each {P = λ v. Dominates w.vector v.vector → ⊥} xs x (λ v. b.apart w v l) (λ d. n.fresh w l d.at_most) z k)
          (more-each {P = λ v. Dominates x.vector v.vector → ⊥} xs x (λ v l d. le_all-lex x.vector v.vector d.at_most (b.after x n.member n.fresh v l)) (λ d. d.differs refl) z k)
          y m;
      first = λ y c m. more-each {P = λ w. C c → c.vector ≡ w.vector → Before c.model w.model → ⊥} xs x (λ w l. b.first w c l) (n.first c) y m;
      after = λ c d f.
          more-each {P = λ w. Lex w.vector c.vector} xs x (b.after c d (λ y m. f y (mathlib.Core.List.Memᴰ.append_left (x ∷ []) m))) (next-before xs x n c d f);
    }

  -- A candidate is not fresh, so one of xs is at most it, and that one's assignment is the first of its vector.
  pub begins-all : (xs : List Candidate) → Begins C Before xs → ((c : Candidate) → C c → Fresh xs c → ⊥) → IsFront C Before xs
  begins-all xs b none = record {
    members = b.members;
    rising = b.rising;
    apart = b.apart;
    complete = λ c d.
        ⊎_elim
        (λ r. record { by = r.by; member = r.member; covers = record { at_most = r.at_most; first = λ e h. b.first r.by c r.member d (sym e) h } })
        (λ f. absurd (none c d f))
        (fresh-or xs c);
  }

  module _ (order : StrictOrder Before) where
    -- x of xs is covered by y of the front. Were y fresh of xs it would come after x, though it is at most x. So z of xs is at most y, and
    -- thereby at most x: z has x's vector, and so has y. Neither of the assignments of x and y is before the other: y is x.
    begins-member : {xs ys : List Candidate} → Begins C Before xs → IsFront C Before ys → Within xs ys
    begins-member {xs} {ys} b g x m =
        let p = g.complete x (b.members x m) in
        let y = p.by in
        let d : C y = g.members y p.member in
        ⊎_elim
        (λ r.
        let z = r.by in
        let s : z.vector ≡ x.vector =
        apart-same b.apart z x r.member m (le_all-trans z.vector y.vector x.vector r.at_most p.covers.at_most)
        in
        let v : y.vector ≡ x.vector =
        le_all-antisym y.vector x.vector p.covers.at_most (subst (λ (w : List ℤ). LeAll w y.vector) s r.at_most)
        in
        let n : y.model ≡ x.model =
        ⊎_elim (λ h. absurd (b.first x y m d v h)) (⊎_elim (λ e. e) (λ h. absurd (p.covers.first v h))) (order.either y.model x.model)
        in
        subst (λ (w : Candidate). Memᴰ w ys) (candidate-same v n) p.member)
        (λ f. absurd (le_all-lex y.vector x.vector p.covers.at_most (b.after y d f x m)))
        (fresh-or xs y)

    -- y of the front is fresh of xs and comes after all of xs; or z of xs, which is in the front, is at most y: it has y's vector, so it is y.
    begins-after : {xs ys : List Candidate} → Begins C Before xs → IsFront C Before ys → GoesOn xs ys
    begins-after {xs} {ys} b g y m =
        ⊎_elim
        (λ r.
        let z = r.by in
        let n : Memᴰ z ys = begins-member b g z r.member in
        let e : z ≡ y = rising-same ys g.rising z y n m (front_same order g z y n m r.at_most) in
        inl (subst (λ (w : Candidate). Memᴰ w xs) e r.member))
        (λ f. inr (b.after y (g.members y m) f))
        (fresh-or xs y)

    pub begins-front : {xs ys : List Candidate} → Begins C Before xs → IsFront C Before ys → take (length xs) ys ≡ xs
    begins-front {xs} {ys} b g = rising-take xs ys b.rising g.rising (begins-member b g) (begins-after b g)

    -- Were the front no longer than xs it would be xs, and one of it is at most c.
    pub begins-short : {xs ys : List Candidate} → Begins C Before xs → IsFront C Before ys → (c : Candidate) → C c → Fresh xs c → length xs < length ys
    begins-short {xs} {ys} b g c d f = by (dec_lt (length xs) (length ys))
      where
        by : Dec (length xs < length ys) → length xs < length ys
        by (yes h) = h
        by (no h) =
            let e : ys ≡ xs = sym (take_all (length xs) ys (omega (arith, h))) ∙ begins-front b g in
            let p = g.complete c d in
            absurd (f p.by (subst (λ (l : List Candidate). Memᴰ p.by l) e p.member) p.covers.at_most)
