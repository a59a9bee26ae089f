-- A front is determined by its candidates and the order of assignments.
use mathlib.Core.Path.{◌≡◌, refl, sym, ap, ap₂, subst, ◌∙◌}
use mathlib.Core.Logic.{◌⊎◌, inl, inr, ⊎_elim}
use mathlib.Core.List.Memᴰ
use mathlib.Core.List.{List, [], ◌∷◌, Memᴰ}
use Prim.Native.Nat.{ℕ}
use lib.IntN.{ℤ}
use lib.ListN.{length, take}
use Rattle.points.specs.Vectors.{LeAll, Dominates, Lex}
use Rattle.points.specs.Fronts.{Candidate, StrictOrder, Covers, Rising, IsFront}
use Rattle.points.proofs.OrderLaws.{lex_irrefl, lex-trans, lex-total, le_all-length, le_all-trans, le_all-antisym}

-- ---- Rising
module _ (x : Candidate) (xs : List Candidate) (r : Rising (x ∷ xs)) where
  pub rising-first : (y : Candidate) → Memᴰ y xs → Lex x.vector y.vector
  unfolding Rising
  rising-first = r.0

  pub rising-rest : Rising xs
  unfolding Rising
  rising-rest = r.1

irrefl-as : {a b : List ℤ} → a ≡ b → Lex a b → ⊥
irrefl-as {a} {b} e h = lex_irrefl b (subst (λ (v : List ℤ). Lex v b) e h)

-- A rising list has a vector once.
pub rising-same : (xs : List Candidate) → Rising xs → (x y : Candidate) → Memᴰ x xs → Memᴰ y xs → x.vector ≡ y.vector → x ≡ y
rising-same [] r x y m n e = absurd (Memᴰ.not-nil m)
rising-same (z ∷ zs) r x y m n e = by (λ p q. rising-same zs (rising-rest z zs r) x y p q e) (Memᴰ.cases_cons m) (Memᴰ.cases_cons n)
  where
    by : (Memᴰ x zs → Memᴰ y zs → x ≡ y) → (x ≡ z) ⊎ Memᴰ x zs → (y ≡ z) ⊎ Memᴰ y zs → x ≡ y
    by f (inl p) (inl q) = p ∙ sym q
    by f (inl p) (inr q) = absurd (irrefl-as (ap (λ (c : Candidate). c.vector) (sym p) ∙ e) (rising-first z zs r y q))
    by f (inr p) (inl q) = absurd (irrefl-as (ap (λ (c : Candidate). c.vector) (sym q) ∙ sym e) (rising-first z zs r x p))
    by f (inr p) (inr q) = f p q

abbrev pub Within : List Candidate → List Candidate → Type 0
Within xs ys = (x : Candidate) → Memᴰ x xs → Memᴰ x ys

-- y comes after all of xs.
abbrev pub After : List Candidate → Candidate → Type 0
After xs y = (x : Candidate) → Memᴰ x xs → Lex x.vector y.vector

-- Each of ys is one of xs or comes after all of them.
abbrev pub GoesOn : List Candidate → List Candidate → Type 0
GoesOn xs ys = (y : Candidate) → Memᴰ y ys → Memᴰ y xs ⊎ After xs y

-- Of two rising lists with the same first element, what is after it in one is after it in the other.
tail_within : (x : Candidate) (xs ys : List Candidate) → Rising (x ∷ xs) → Within (x ∷ xs) (x ∷ ys) → Within xs ys
tail_within x xs ys r w z m =
    ⊎_elim (λ e. absurd (irrefl-as (ap (λ (c : Candidate). c.vector) (sym e)) (rising-first x xs r z m))) (λ t. t)
    (Memᴰ.cases_cons (w z (Memᴰ.tail m)))

-- Rising lists with the same members are equal.
pub rising-unique : (xs ys : List Candidate) → Rising xs → Rising ys → Within xs ys → Within ys xs → xs ≡ ys
rising-unique [] [] r s w v = refl
rising-unique [] (y ∷ ys) r s w v = absurd (Memᴰ.not-nil (v y (Memᴰ.head refl)))
rising-unique (x ∷ xs) [] r s w v = absurd (Memᴰ.not-nil (w x (Memᴰ.head refl)))
rising-unique (x ∷ xs) (y ∷ ys) r s w v = by (rising-unique xs ys (rising-rest x xs r) (rising-rest y ys s)) (Memᴰ.cases_cons (w x (Memᴰ.head refl))) (Memᴰ.cases_cons (v y (Memᴰ.head refl)))
  where
    same : (Within xs ys → Within ys xs → xs ≡ ys) → x ≡ y → (x ∷ xs) ≡ (y ∷ ys)
    same f e =
        let s' : Rising (x ∷ ys) = subst (λ (c : Candidate). Rising (c ∷ ys)) (sym e) s in
        let w' : Within (x ∷ xs) (x ∷ ys) = subst (λ (c : Candidate). Within (x ∷ xs) (c ∷ ys)) (sym e) w in
        let v' : Within (x ∷ ys) (x ∷ xs) = subst (λ (c : Candidate). Within (c ∷ ys) (x ∷ xs)) (sym e) v in
        ap₂ ◌∷◌ e (f (tail_within x xs ys r w') (tail_within x ys xs s' v'))

    by : (Within xs ys → Within ys xs → xs ≡ ys) → (x ≡ y) ⊎ Memᴰ x ys → (y ≡ x) ⊎ Memᴰ y xs → (x ∷ xs) ≡ (y ∷ ys)
    by f (inl e) q = same f e
    by f (inr p) (inl e) = same f (sym e)
    by f (inr p) (inr q) =
        absurd (lex_irrefl x.vector (lex-trans x.vector y.vector x.vector (rising-first x xs r y q) (rising-first y ys s x p)))

-- Where xs rises within ys, which rises, and each of ys is one of xs or comes after all of them, ys begins with xs: the first x of xs is not
-- before the first y of ys, as it is in ys, and y is not before x, as it is in xs or after x; so the two are one, and the rest is the same again.
pub rising-take : (xs ys : List Candidate) → Rising xs → Rising ys → Within xs ys → GoesOn xs ys → take (length xs) ys ≡ xs
rising-take [] ys r s w v = refl
rising-take (x ∷ xs) [] r s w v = absurd (Memᴰ.not-nil (w x (Memᴰ.head refl)))
rising-take (x ∷ xs) (y ∷ ys) r s w v =
    by (rising-take xs ys (rising-rest x xs r) (rising-rest y ys s)) (Memᴰ.cases_cons (w x (Memᴰ.head refl)))
    (⊎_elim (λ m. ⊎_elim inl (λ n. inr (rising-first x xs r y n)) (Memᴰ.cases_cons m)) (λ a. inr (a x (Memᴰ.head refl))) (v y (Memᴰ.head refl)))
  where
    rest : x ≡ y → GoesOn xs ys
    rest e z m =
        ⊎_elim
        (λ n.
        ⊎_elim (λ p. absurd (irrefl-as (ap (λ (c : Candidate). c.vector) (sym e ∙ sym p)) (rising-first y ys s z m))) inl (Memᴰ.cases_cons n))
        (λ a. inr (λ u n. a u (Memᴰ.tail n)))
        (v z (Memᴰ.tail m))

    same : (Within xs ys → GoesOn xs ys → take (length xs) ys ≡ xs) → x ≡ y → (y ∷ take (length xs) ys) ≡ (x ∷ xs)
    same f e =
        let w' : Within (x ∷ xs) (x ∷ ys) = subst (λ (c : Candidate). Within (x ∷ xs) (c ∷ ys)) (sym e) w in
        ap₂ ◌∷◌ (sym e) (f (tail_within x xs ys r w') (rest e))

    by : (Within xs ys → GoesOn xs ys → take (length xs) ys ≡ xs) → (x ≡ y) ⊎ Memᴰ x ys → (y ≡ x) ⊎ Lex x.vector y.vector → (y ∷ take (length xs) ys) ≡ (x ∷ xs)
    by f (inl e) q = same f e
    by f (inr p) (inl e) = same f (sym e)
    by f (inr p) (inr l) = absurd (lex_irrefl x.vector (lex-trans x.vector y.vector x.vector l (rising-first y ys s x p)))

-- ---- IsFront
abbrev candidate : List ℤ → ℕ → Candidate
candidate v m = record { vector = v; model = m }

pub candidate-same : {x y : Candidate} → x.vector ≡ y.vector → x.model ≡ y.model → x ≡ y
candidate-same v m = ap₂ candidate v m

-- Where none of a list dominates another, of two of it the one at most the other in every place has the same vector.
pub apart-same : {xs : List Candidate} → ((x y : Candidate) → Memᴰ x xs → Memᴰ y xs → Dominates x.vector y.vector → ⊥)
    → (x y : Candidate) → Memᴰ x xs → Memᴰ y xs → LeAll x.vector y.vector → x.vector ≡ y.vector
apart-same apart x y m n h =
    ⊎_elim (λ l. absurd (apart x y m n (record { at_most = h; differs = λ e. irrefl-as e l })))
    (⊎_elim (λ e. e) (λ l. absurd (apart x y m n (record { at_most = h; differs = λ e. irrefl-as (sym e) l }))))
    (lex-total x.vector y.vector (le_all-length x.vector y.vector h))

module _ {C : Candidate → Type 0} {Before : ℕ → ℕ → Type 0} (order : StrictOrder Before) where
  -- Of two of a front the one at most the other in every place has the same vector.
  pub front_same : {xs : List Candidate} → IsFront C Before xs → (x y : Candidate) → Memᴰ x xs → Memᴰ y xs → LeAll x.vector y.vector → x.vector ≡ y.vector
  front_same f = apart-same f.apart

  -- x is covered by y of the other front, and y by z of x's: z has x's vector, so it is x; then y has it too, and neither assignment is
  -- before the other.
  pub front-member : {xs ys : List Candidate} → IsFront C Before xs → IsFront C Before ys → (x : Candidate) → Memᴰ x xs → Memᴰ x ys
  front-member {xs} {ys} f g x m =
      let p = g.complete x (f.members x m) in
      let y = p.by in
      let q = f.complete y (g.members y p.member) in
      let z = q.by in
      let s : z.vector ≡ x.vector =
      front_same f z x q.member m (le_all-trans z.vector y.vector x.vector q.covers.at_most p.covers.at_most)
      in
      let same : z ≡ x = rising-same xs f.rising z x q.member m s in
      let c : Covers Before x y = subst (λ (w : Candidate). Covers Before w y) same q.covers in
      let v : y.vector ≡ x.vector = le_all-antisym y.vector x.vector p.covers.at_most c.at_most in
      let n : y.model ≡ x.model =
      ⊎_elim (λ b. absurd (c.first (sym v) b)) (⊎_elim (λ e. e) (λ b. absurd (p.covers.first v b))) (order.either y.model x.model)
      in
      subst (λ (w : Candidate). Memᴰ w ys) (candidate-same v n) p.member

  pub front-unique : {xs ys : List Candidate} → IsFront C Before xs → IsFront C Before ys → xs ≡ ys
  front-unique {xs} {ys} f g = rising-unique xs ys f.rising g.rising (front-member f g) (front-member g f)
