-- The order of vectors by the first place where they differ: transitive, decided place by place, and falling with its left side.
use mathlib.Core.Path.{◌≡◌, sym, ◌∙◌}
use mathlib.Core.Logic.{◌⊎◌, inl, inr, ⊎_elim}
use mathlib.Core.Bool.{Bool, true, false}
use Prim.Native.Nat.{ℕ, zero, suc, ◌+◌, ◌-◌, ◌≤◌, ◌<◌}
use native.Mathlib.Omega.{arith}
use Rattle.charging.proofs.SumLaws.{eq-or, lt-or}
use Rattle.capping.specs.Caps.{less}

pub no : {A : Type 0} → ◌≡◌ {A = Bool} true false → A
no e = absurd (let z : ◌≡◌ {A = ℕ} 0 1 = cc in omega arith)

pub on : {A : Type 0} → ◌≡◌ {A = Bool} false true → A
on e = absurd (let z : ◌≡◌ {A = ℕ} 0 1 = cc in omega arith)

-- R3, one place
pub lex-le : (m j : ℕ) (f g : ℕ → ℕ) → less m j f g → f j ≤ g j
unfolding less
lex-le zero j f g h = absurd h
lex-le (suc m) j f g h = ⊎_elim (λ e. omega (arith, e)) (λ e. omega (arith, e.0)) h

pub lex-empty : (j : ℕ) (f g : ℕ → ℕ) → less 0 j f g → ⊥
unfolding less
lex-empty j f g h = h

pub lex-on : (m j : ℕ) (f g : ℕ → ℕ) → less m j f g → g j ≤ f j → less (m - 1) (j + 1) f g
unfolding less
lex-on zero j f g h l = absurd h
lex-on (suc m) j f g h l = let e : suc m - 1 ≡ m = omega arith in rw e (⊎_elim (λ z. absurd (omega (arith, z))) (λ z. z.1) h)

-- the order
pub lex-trans : (m j : ℕ) (f g h : ℕ → ℕ) → less m j f g → less m j g h → less m j f h
unfolding less
lex-trans zero j f g h a b = a
lex-trans (suc m) j f g h a b =
    ⊎_elim (λ x. ⊎_elim (λ y. inl (omega (arith, x, y))) (λ y. inl (omega (arith, x, y.0))) b)
    (λ x. ⊎_elim (λ y. inl (omega (arith, x.0, y))) (λ y. inr (x.0 ∙ y.0, lex-trans m (j + 1) f g h x.1 y.1)) b) a

pub lex-up : (m j k : ℕ) (f g : ℕ → ℕ) → j + m ≤ k → ((i : ℕ) → i < k → g i ≤ f i) → less m j f g → ⊥
unfolding less
lex-up zero j k f g z u a = a
lex-up (suc m) j k f g z u a = ⊎_elim (λ x. omega (arith, x, u j (omega arith))) (λ x. lex-up m (j + 1) k f g (omega arith) u x.1) a

pub lex-or : (m j : ℕ) (f g : ℕ → ℕ) → less m j f g ⊎ (less m j f g → ⊥)
unfolding less
lex-or zero j f g = inr (λ a. a)
lex-or (suc m) j f g =
    ⊎_elim (λ x. inl (inl x))
    (λ x. ⊎_elim (λ e. ⊎_elim (λ y. inl (inr (e, y))) (λ y. inr (λ a. ⊎_elim (λ b. omega (arith, b, x)) (λ b. y b.1) a)) (lex-or m (j + 1) f g))
    (λ e. inr (λ a. ⊎_elim (λ b. omega (arith, b, x)) (λ b. e b.0) a)) (eq-or (f j) (g j)))
    (lt-or (f j) (g j))

-- the same by the places that are compared
pub lex-same : (m j k : ℕ) (f f' g g' : ℕ → ℕ) → j + m ≤ k → ((i : ℕ) → i < k → f i ≡ f' i) → ((i : ℕ) → i < k → g i ≡ g' i) → less m j f g → less m j f' g'
unfolding less
lex-same zero j k f f' g g' z u v a = a
lex-same (suc m) j k f f' g g' z u v a =
    ⊎_elim (λ x. inl (omega (arith, x, u j (omega arith), v j (omega arith))))
    (λ x. inr (sym (u j (omega arith)) ∙ x.0 ∙ v j (omega arith), lex-same m (j + 1) k f f' g g' (omega arith) u v x.1)) a

pub lex-mono : (m j k : ℕ) (a b c : ℕ → ℕ) → j + m ≤ k → ((i : ℕ) → i < k → a i ≤ b i) → less m j b c → less m j a c
unfolding less
lex-mono zero j k a b c z u h = h
lex-mono (suc m) j k a b c z u h =
    ⊎_elim (λ x. inl (omega (arith, x, u j (omega arith))))
    (λ x. ⊎_elim (λ e. inr (e ∙ x.0, lex-mono m (j + 1) k a b c (omega arith) u x.1)) (λ e. inl (omega (arith, x.0, u j (omega arith), e))) (eq-or (a j) (b j))) h
