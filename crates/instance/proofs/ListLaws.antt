-- Laws of lists by index (`tabulate`) and of runs of indices (`run`).
use mathlib.Core.Path.{◌≡◌, refl, sym, ap, ◌∙◌, subst}
use mathlib.Core.Bool.{Bool, true, false, cond}
use mathlib.Core.List.Memᴰ
use mathlib.Core.List.{List, [], ◌∷◌, ◌++◌, Memᴰ}
use mathlib.Core.Logic.{⊎_elim}
use Prim.Native.Nat.{ℕ, zero, suc, ◌+◌, ◌≤◌, ◌<◌, zero-le}
use native.Mathlib.Omega.{arith}
use borrow.Author.Count.{below_more}
use lib.Dec.{T}
use lib.ListN.{length, get_or}
use lib.Seq.{ext_get_or}
use Rattle.instance.specs.Lists.{tabulate, run}

-- ---- tabulate
module _ {ℓ} {A : Type ℓ} (f : ℕ → A) where
  pub tabulate-length : (first n : ℕ) → length (tabulate f first n) ≡ n
  unfolding tabulate
  tabulate-length first zero = refl
  tabulate-length first (suc n) = ap suc (tabulate-length (suc first) n)

  pub tabulate-same : (a b m n : ℕ) → a ≡ b → m ≡ n → tabulate f a m ≡ tabulate f b n
  tabulate-same a b m n e h = ap (λ (k : ℕ). tabulate f k m) e ∙ ap (tabulate f b) h

  -- The first m and the n after them.
  pub tabulate-append : (first m n : ℕ) → tabulate f first (m + n) ≡ tabulate f first m ++ tabulate f (first + m) n
  unfolding tabulate
  tabulate-append first zero n = tabulate-same first (first + 0) (0 + n) n (omega arith) (omega arith)
  tabulate-append first (suc m) n =
      tabulate-same first first (suc m + n) (suc (m + n)) refl (omega arith)
      ∙ ap (λ (l : List A). f first ∷ l)
      (tabulate-append (suc first) m n ∙ ap (λ (l : List A). tabulate f (suc first) m ++ l) (tabulate-same (suc first + m) (first + suc m) n n (omega arith) refl))

  -- One more at the end.
  pub tabulate-snoc : (first n : ℕ) → tabulate f first (n + 1) ≡ tabulate f first n ++ (f (first + n) ∷ [])
  unfolding tabulate
  tabulate-snoc first n = tabulate-append first n 1

  pub tabulate-get_or : (first n k : ℕ) (d : A) → k < n → get_or (tabulate f first n) k d ≡ f (first + k)
  unfolding tabulate
  tabulate-get_or first zero k d h = absurd (omega arith)
  tabulate-get_or first (suc n) zero d h = ap f (omega arith)
  tabulate-get_or first (suc n) (suc k) d h = tabulate-get_or (suc first) n k d (omega arith) ∙ ap f (omega arith)

  -- What holds of each number tabulated holds of each member of the list.
  pub tabulate-each : (P : A → Type 0) (first n : ℕ) → ((k : ℕ) → k < n → P (f (first + k))) → (x : A) → Memᴰ x (tabulate f first n) → P x
  unfolding tabulate
  tabulate-each P first zero h x m = absurd (Memᴰ.not-nil m)
  tabulate-each P first (suc n) h x m =
      ⊎_elim (λ e. subst P (ap f (omega arith) ∙ sym e) (h 0 (omega arith)))
      (λ t. tabulate-each P (suc first) n (λ k l. subst P (ap f (omega arith)) (h (suc k) (omega arith))) x t)
      (Memᴰ.cases_cons m)

  pub tabulate-member : (first n k : ℕ) → k < n → Memᴰ (f (first + k)) (tabulate f first n)
  unfolding tabulate
  tabulate-member first zero k h = absurd (omega arith)
  tabulate-member first (suc n) zero h = let e : first + 0 ≡ first = omega arith in Memᴰ.head (ap f e)
  tabulate-member first (suc n) (suc k) h =
      let e : suc first + k ≡ first + suc k = omega arith in
      Memᴰ.tail (subst (λ (i : ℕ). Memᴰ (f i) (tabulate f (suc first) n)) e (tabulate-member (suc first) n k (omega arith)))

  -- A list whose elements are f first, f (first + 1), .. is tabulated so.
  pub tabulate-list : (first : ℕ) (d : A) (xs : List A) → ((k : ℕ) → k < length xs → f (first + k) ≡ get_or xs k d) → tabulate f first (length xs) ≡ xs
  tabulate-list first d xs h =
      ext_get_or d (tabulate f first (length xs)) xs (tabulate-length first (length xs))
      (λ i l. let l' : i < length xs = subst (λ (n : ℕ). i < n) (tabulate-length first (length xs)) l in tabulate-get_or first (length xs) i d l' ∙ h i l')

-- Two tabulations that agree at each place.
pub tabulate-cong {ℓ} : {A : Type ℓ} (f g : ℕ → A) (a b n : ℕ) → ((k : ℕ) → k < n → f (a + k) ≡ g (b + k)) → tabulate f a n ≡ tabulate g b n
unfolding tabulate
tabulate-cong f g a b zero h = refl
tabulate-cong {A = A} f g a b (suc n) h =
    ap (λ (x : A). x ∷ tabulate f (suc a) n) (ap f (omega arith) ∙ h 0 (omega arith) ∙ ap g (omega arith))
    ∙ ap (λ (l : List A). g b ∷ l) (tabulate-cong f g (suc a) (suc b) n (λ k l. ap f (omega arith) ∙ h (suc k) (omega arith) ∙ ap g (omega arith)))

-- ---- run
-- m numbers in a row from `first` on have p, and the next, where there is one of the n, has not.
pub record IsRun (p : ℕ → Bool) (first n m : ℕ) : Type 0 where
  pub most : m ≤ n
  pub below : (j : ℕ) → j < m → p (first + j) ≡ true
  pub stop : m < n → p (first + m) ≡ false

module _ (p : ℕ → Bool) where
  run-yes : (first n : ℕ) → p first ≡ true → run p first (suc n) ≡ suc (run p (suc first) n)
  unfolding run
  run-yes first n e = ap (λ (t : Bool). cond t (suc (run p (suc first) n)) 0) e

  run-no : (first n : ℕ) → p first ≡ false → run p first (suc n) ≡ 0
  unfolding run
  run-no first n e = ap (λ (t : Bool). cond t (suc (run p (suc first) n)) 0) e

  is_run-more : {first n m : ℕ} → p first ≡ true → IsRun p (suc first) n m → IsRun p first (suc n) (suc m)
  is_run-more {first} {n} {m} e r = record {
    most = omega (arith, r.most);
    below = below';
    stop = λ h. ap p (omega arith) ∙ r.stop (omega arith);
  }
    where
      below' : (j : ℕ) → j < suc m → p (first + j) ≡ true
      below' zero h = ap p (omega arith) ∙ e
      below' (suc j) h = ap p (omega arith) ∙ r.below j (omega arith)

  is_run-none : {first n : ℕ} → p first ≡ false → IsRun p first (suc n) 0
  is_run-none e = record { most = zero-le; below = λ j h. absurd (omega arith); stop = λ h. ap p (omega arith) ∙ e }

  -- The run that `run` counts,
  pub run_is : (first n : ℕ) → IsRun p first n (run p first n)
  unfolding run
  run_is first zero = record { most = zero-le; below = λ j h. absurd (omega arith); stop = λ h. absurd (omega arith) }
  run_is first (suc n) = pick (p first) refl (run_is (suc first) n)
    where
      pick : (b : Bool) → p first ≡ b → IsRun p (suc first) n (run p (suc first) n) → IsRun p first (suc n) (run p first (suc n))
      pick true e r = subst (IsRun p first (suc n)) (sym (run-yes first n e)) (is_run-more e r)
      pick false e r = subst (IsRun p first (suc n)) (sym (run-no first n e)) (is_run-none e)

  is_run-least : {first n k m : ℕ} → IsRun p first n k → IsRun p first n m → k < m → ⊥
  is_run-least {first} {n} {k} {m} s r h = subst T (sym (r.below k h) ∙ s.stop (omega (arith, r.most))) tt

  -- and the only one.
  pub run-unique : {first n m : ℕ} → IsRun p first n m → run p first n ≡ m
  run-unique {first} {n} {m} r =
      let s = run_is first n in
      let least : run p first n < m → ⊥ = is_run-least s r in
      let most : m < run p first n → ⊥ = is_run-least r s in
      omega arith

-- ---- a loop that counts a run: of the n numbers from `first` on, all of the k passed have p
pub record Passed (p : ℕ → Bool) (first n k : ℕ) : Type 0 where
  pub most : k ≤ n
  pub below : (j : ℕ) → j < k → p (first + j) ≡ true

pub passed_none : {p : ℕ → Bool} {first n : ℕ} → Passed p first n 0
passed_none = record { most = zero-le; below = λ j h. absurd (omega arith) }

module _ {p : ℕ → Bool} {first n k : ℕ} where
  pub passed-more : Passed p first n k → k < n → p (first + k) ≡ true → Passed p first n (k + 1)
  passed-more r h e = record { most = omega arith; below = below_more (λ (j : ℕ). p (first + j) ≡ true) k r.below e }

  pub passed-stop : Passed p first n k → p (first + k) ≡ false → k ≡ run p first n
  passed-stop r e = sym (run-unique p (record { most = r.most; below = r.below; stop = λ h. e }))

  pub passed-all : Passed p first n k → n ≤ k → k ≡ run p first n
  passed-all r h = sym (run-unique p (record { most = r.most; below = r.below; stop = λ l. absurd (omega arith) }))
