-- Sums over a run of places: they rise with their terms, and a greater sum has a greater term. Then hit, miss and spare by cases.
use mathlib.Core.Path.{◌≡◌, refl, ap, sym, subst, ◌∙◌}
use mathlib.Core.Logic.{◌⊎◌, inl, inr, ⊎_elim}
use mathlib.Core.Bool.{Bool, true, false}
use Prim.Native.Nat.{ℕ, zero, suc, ◌+◌, ◌*◌, ◌≤◌, ◌<◌}
use native.Mathlib.Nat.{le_refl, not-suc-le-zero, eq-or-lt_of_le, le_of_suc-le-suc, suc-mul, zero-add}
use native.Mathlib.Numerals.{add-one}
use native.Mathlib.Omega.{arith}
use borrow.Author.Tests.{ltb-true, ltb-false, eqb-true, eqb-false, eq-eqb, ne_eqb}
use lib.Dec.{ltb, eqb}
use Rattle.charging.specs.Rows.{span, hit, miss, spare}

pub eq-or : (a b : ℕ) → (a ≡ b) ⊎ (a ≡ b → ⊥)
eq-or a b = split (eqb a b) refl
  where
    split : (t : Bool) → eqb a b ≡ t → (a ≡ b) ⊎ (a ≡ b → ⊥)
    split true e = inl (eqb-true a b e)
    split false e = inr (eqb-false a b e)

pub lt-or : (a b : ℕ) → (a < b) ⊎ (b ≤ a)
lt-or a b = split (ltb a b) refl
  where
    split : (t : Bool) → ltb a b ≡ t → (a < b) ⊎ (b ≤ a)
    split true e = inl (ltb-true a b e)
    split false e = inr (ltb-false a b e)

pub span_none : (f : ℕ → ℕ) (a : ℕ) → span f a 0 ≡ 0
unfolding span
span_none f a = refl

pub span_more : (f : ℕ → ℕ) (a n : ℕ) → span f a (n + 1) ≡ span f a n + f (a + n)
unfolding span
span_more f a n = rw add-one

pub span-mono : (f g : ℕ → ℕ) (a n : ℕ) → ((k : ℕ) → k < n → f (a + k) ≤ g (a + k)) → span f a n ≤ span g a n
unfolding span
span-mono f g a zero h = le_refl 0
span-mono f g a (suc n) h =
    let one = span-mono f g a n (λ k l. h k (omega arith)) in
    let two = h n (le_refl (suc n)) in
    omega arith

-- where one term is m less, so is the sum
pub span-drop : (f g : ℕ → ℕ) (a n u m : ℕ) → ((k : ℕ) → k < n → f (a + k) ≤ g (a + k)) → u < n → f (a + u) + m ≤ g (a + u) → span f a n + m ≤ span g a n
unfolding span
span-drop f g a zero u m h l e = absurd (not-suc-le-zero l)
span-drop f g a (suc n) u m h l e =
    ⊎_elim
    (λ q. let s : f (a + n) + m ≤ g (a + n) = rw (← q) e in
    let one = span-mono f g a n (λ k j. h k (omega arith)) in omega arith)
    (λ q. let one = span-drop f g a n u m (λ k j. h k (omega arith)) q e in
    let two = h n (le_refl (suc n)) in omega arith)
    (eq-or-lt_of_le (le_of_suc-le-suc l))

pub span-add : (f g e : ℕ → ℕ) (a n : ℕ) → ((k : ℕ) → k < n → f (a + k) + g (a + k) ≤ e (a + k)) → span f a n + span g a n ≤ span e a n
unfolding span
span-add f g e a zero h = le_refl 0
span-add f g e a (suc n) h =
    let one = span-add f g e a n (λ k l. h k (omega arith)) in
    let two = h n (le_refl (suc n)) in
    omega arith

-- a greater sum has a greater term
pub span-some : (f g : ℕ → ℕ) (a n : ℕ) {C : Type 0} → span f a n < span g a n → ((k : ℕ) → k < n → f (a + k) < g (a + k) → C) → C
unfolding span
span-some f g a zero l go = absurd (not-suc-le-zero l)
span-some f g a (suc n) {C} l go = split (ltb (f (a + n)) (g (a + n))) refl (λ r. span-some f g a n r (λ k j m. go k (omega arith) m))
  where
    split : (t : Bool) → ltb (f (a + n)) (g (a + n)) ≡ t → (span f a n < span g a n → C) → C
    split true e back = go n (le_refl (suc n)) (ltb-true _ _ e)
    split false e back = back (let q : g (a + n) ≤ f (a + n) = ltb-false _ _ e in omega arith)

pub span-le-from : (f : ℕ → ℕ) (a n b : ℕ) → ((k : ℕ) → a ≤ k → k < a + n → f k ≤ b) → span f a n ≤ n * b
unfolding span
span-le-from f a zero b h = omega arith
span-le-from f a (suc n) b h = rw suc-mul (let one = span-le-from f a n b (λ k m l. h k m (omega arith)) in let two = h (a + n) (omega arith) (omega arith) in omega arith)

pub span-le : (f : ℕ → ℕ) (n b : ℕ) → ((k : ℕ) → k < n → f k ≤ b) → span f 0 n ≤ n * b
span-le f n b h = span-le-from f 0 n b (λ k _ l. h k (omega arith))

-- the sum from 0 on
pub sum_none : (f : ℕ → ℕ) → span f 0 0 ≡ 0
sum_none f = span_none f 0

pub sum_more : (f : ℕ → ℕ) (n : ℕ) → span f 0 (n + 1) ≡ span f 0 n + f n
sum_more f n = span_more f 0 n ∙ ap (λ (k : ℕ). span f 0 n + f k) (zero-add n)

pub sum-mono : (f g : ℕ → ℕ) (n : ℕ) → ((k : ℕ) → k < n → f k ≤ g k) → span f 0 n ≤ span g 0 n
sum-mono f g n h = span-mono f g 0 n (λ k l. rw zero-add (h k l))

pub sum-drop : (f g : ℕ → ℕ) (n u m : ℕ) → ((k : ℕ) → k < n → f k ≤ g k) → u < n → f u + m ≤ g u → span f 0 n + m ≤ span g 0 n
sum-drop f g n u m h l e = span-drop f g 0 n u m (λ k i. rw zero-add (h k i)) l (rw zero-add e)

pub sum-add : (f g e : ℕ → ℕ) (n : ℕ) → ((k : ℕ) → k < n → f k + g k ≤ e k) → span f 0 n + span g 0 n ≤ span e 0 n
sum-add f g e n h = span-add f g e 0 n (λ k l. rw zero-add (h k l))

pub sum-some : (f g : ℕ → ℕ) (n : ℕ) {C : Type 0} → span f 0 n < span g 0 n → ((k : ℕ) → k < n → f k < g k → C) → C
sum-some f g n l go = span-some f g 0 n l (λ k i m. go k i (rw zero-add at m))

-- the same terms, wherever they stand
pub span-same : (f g : ℕ → ℕ) (a n : ℕ) → ((k : ℕ) → k < n → f (a + k) ≡ g k) → span f a n ≡ span g 0 n
unfolding span
span-same f g a zero h = refl
span-same f g a (suc n) h =
    let one = span-same f g a n (λ k l. h k (omega arith)) in
    let two : f (a + n) ≡ g (0 + n) = h n (le_refl (suc n)) ∙ ap g (sym (zero-add n)) in
    omega arith

-- one term of a sum
pub one_of : (f : ℕ → ℕ) (n v : ℕ) → v < n → f v ≤ span f 0 n
unfolding span
one_of f zero v l = absurd (not-suc-le-zero l)
one_of f (suc n) v l = ⊎_elim (λ e. subst (λ (k : ℕ). f k ≤ span f 0 n + f (0 + n)) (sym e) (rw zero-add (omega arith))) (λ e. let k = one_of f n v (omega arith) in omega arith) (eq-or v n)

-- the three leaves
pub hit-eq : (a b w : ℕ) → a ≡ b → hit a b w ≡ w
unfolding hit
hit-eq a b w e = rw (eq-eqb a b e)

pub hit-ne : (a b w : ℕ) → (a ≡ b → ⊥) → hit a b w ≡ 0
unfolding hit
hit-ne a b w e = rw (ne_eqb a b e)

pub miss-eq : (a b w : ℕ) → a ≡ b → miss a b w ≡ 0
unfolding miss
miss-eq a b w e = rw (eq-eqb a b e)

pub miss-ne : (a b w : ℕ) → (a ≡ b → ⊥) → miss a b w ≡ w
unfolding miss
miss-ne a b w e = rw (ne_eqb a b e)

pub miss-le : (a b w : ℕ) → miss a b w ≤ w
miss-le a b w = ⊎_elim (λ e. omega (arith, miss-eq a b w e)) (λ e. omega (arith, miss-ne a b w e)) (eq-or a b)

pub hit-le : (a b w : ℕ) → hit a b w ≤ w
hit-le a b w = ⊎_elim (λ e. omega (arith, hit-eq a b w e)) (λ e. omega (arith, hit-ne a b w e)) (eq-or a b)

pub spare-none : (y off dear r w : ℕ) → y ≡ off → spare y off dear r w ≡ 0
unfolding spare
spare-none y off dear r w e = rw (eq-eqb y off e)

pub spare-free : (y off dear r w : ℕ) → (y ≡ off → ⊥) → dear ≡ off → spare y off dear r w ≡ w
unfolding spare
spare-free y off dear r w e f = rw (ne_eqb y off e, eq-eqb dear off f)

pub spare-paid : (y off dear r w : ℕ) → (y ≡ off → ⊥) → (dear ≡ off → ⊥) → r ≡ 0 → spare y off dear r w ≡ w
unfolding spare
spare-paid y off dear r w e f g = rw (ne_eqb y off e, ne_eqb dear off f, eq-eqb r 0 g)

pub spare-charged : (y off dear r w : ℕ) → (y ≡ off → ⊥) → (dear ≡ off → ⊥) → (r ≡ 0 → ⊥) → spare y off dear r w ≡ 0
unfolding spare
spare-charged y off dear r w e f g = rw (ne_eqb y off e, ne_eqb dear off f, ne_eqb r 0 g)

pub spare-le : (y off dear r w : ℕ) → spare y off dear r w ≤ w
spare-le y off dear r w =
    ⊎_elim (λ e. omega (arith, spare-none y off dear r w e))
    (λ e. ⊎_elim (λ f. omega (arith, spare-free y off dear r w e f))
    (λ f. ⊎_elim (λ g. omega (arith, spare-paid y off dear r w e f g)) (λ g. omega (arith, spare-charged y off dear r w e f g)) (eq-or r 0))
    (eq-or dear off))
    (eq-or y off)
