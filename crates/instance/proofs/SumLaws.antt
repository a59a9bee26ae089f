-- Laws of lists of terms: the highest variable, and sums, which stay small where all terms are in range.
use mathlib.Core.Path.{◌≡◌, refl, sym, ap, ◌∙◌}
use mathlib.Core.Bool.{Bool, true, false, cond}
use mathlib.Core.List.Memᴰ
use mathlib.Core.List.{List, [], ◌∷◌, ◌++◌, Memᴰ}
use mathlib.Core.Logic.{⊎_elim}
use Prim.Native.Nat.{ℕ, ◌+◌, ◌*◌, ◌≤◌, max, zero-le}
use native.Mathlib.Omega.{arith}
use lib.IntN.{ℤ, pos, nat_abs, ◌+ℤ◌, +ℤ_idl, +ℤ_idr, +ℤ_assoc}
use lib.ListN.{length}
use mir.Syntax.{w64}
use mir.Val.{SFits}
use Rattle.instance.specs.Limits.{max_coef, max_terms, max_variable, max_bound}
use Rattle.instance.specs.Lists.{tabulate}
use Rattle.instance.specs.Terms.{Term, TermOk, lit_true, term_value, sum, highest}
use Rattle.instance.specs.Tables.{term_at}
use Rattle.instance.specs.Meaning.{terms_at}
use Rattle.integers.proofs.SignedLaws.{abs-add, sfits-abs}
use Rattle.instance.proofs.ListLaws.{tabulate-snoc}

-- ---- highest
pub highest-append : (xs ys : List Term) → highest (xs ++ ys) ≡ max (highest xs) (highest ys)
unfolding highest
highest-append [] ys = omega arith
highest-append (x ∷ xs) ys = let r : highest (xs ++ ys) ≡ max (highest xs) (highest ys) = highest-append xs ys in omega arith

pub highest-none : (ts : List ℤ) → 0 ≡ highest (terms_at ts 0 0)
unfolding highest tabulate
highest-none ts = refl

-- One more term of the table.
pub highest-step : (ts : List ℤ) (first n : ℕ) → highest (terms_at ts first (n + 1)) ≡ max (highest (terms_at ts first n)) (nat_abs (term_at ts (first + n)).lit)
unfolding highest
highest-step ts first n = ap highest (tabulate-snoc (term_at ts) first n) ∙ (highest-append (terms_at ts first n) (term_at ts (first + n) ∷ []) ∙ omega arith)

-- The same from the table's start.
pub highest-more : (ts : List ℤ) (n : ℕ) → max (highest (terms_at ts 0 n)) (nat_abs (term_at ts n).lit) ≡ highest (terms_at ts 0 (n + 1))
highest-more ts n =
    let e : n ≡ 0 + n = omega arith in
    ap (λ (k : ℕ). max (highest (terms_at ts 0 n)) (nat_abs (term_at ts k).lit)) e ∙ sym (highest-step ts 0 n)

-- No term names a higher variable,
pub highest-member : (xs : List Term) (t : Term) → Memᴰ t xs → nat_abs t.lit ≤ highest xs
unfolding highest
highest-member [] t m = absurd (Memᴰ.not-nil m)
highest-member (x ∷ xs) t m =
    ⊎_elim (λ e. let s : nat_abs t.lit ≡ nat_abs x.lit = ap (λ (u : Term). nat_abs u.lit) e in omega arith)
    (λ n. let r : nat_abs t.lit ≤ highest xs = highest-member xs t n in omega arith)
    (Memᴰ.cases_cons m)

-- and where all are in range it is at most 64.
pub highest-le : (xs : List Term) → ((t : Term) → Memᴰ t xs → TermOk t) → highest xs ≤ max_variable
unfolding highest
highest-le [] o = zero-le
highest-le (x ∷ xs) o =
    let r : highest xs ≤ max_variable = highest-le xs (λ t m. o t (Memᴰ.tail m)) in
    omega (arith, (o x (Memᴰ.head refl)).named.high)

-- ---- sum
pub sum-append : (xs ys : List Term) (a : ℕ) → sum (xs ++ ys) a ≡ sum xs a +ℤ sum ys a
unfolding sum
sum-append [] ys a = sym (+ℤ_idl (sum ys a))
sum-append (x ∷ xs) ys a = ap (λ (z : ℤ). term_value x a +ℤ z) (sum-append xs ys a) ∙ sym (+ℤ_assoc (term_value x a) (sum xs a) (sum ys a))

pub sum-snoc : (xs : List Term) (t : Term) (a : ℕ) → sum (xs ++ (t ∷ [])) a ≡ sum xs a +ℤ term_value t a
unfolding sum
sum-snoc xs t a = sum-append xs (t ∷ []) a ∙ ap (λ (z : ℤ). sum xs a +ℤ z) (+ℤ_idr (term_value t a))

-- One more term of the table.
pub sum_step : (ts : List ℤ) (first n a : ℕ) → sum (terms_at ts first (n + 1)) a ≡ sum (terms_at ts first n) a +ℤ term_value (term_at ts (first + n)) a
sum_step ts first n a = ap (λ (l : List Term). sum l a) (tabulate-snoc (term_at ts) first n) ∙ sum-snoc (terms_at ts first n) (term_at ts (first + n)) a

-- ---- sizes
pub term_value-le : (t : Term) (a : ℕ) → TermOk t → nat_abs (term_value t a) ≤ max_coef
term_value-le t a o = pick (lit_true t.lit a)
  where
    pick : (b : Bool) → nat_abs (cond b t.coef (pos 0)) ≤ max_coef
    pick true = o.small
    pick false = zero-le

pub sum-le : (ts : List Term) (a : ℕ) → ((t : Term) → Memᴰ t ts → TermOk t) → nat_abs (sum ts a) ≤ length ts * max_coef
unfolding sum
sum-le [] a o = zero-le
sum-le (t ∷ ts) a o =
    let r : nat_abs (sum ts a) ≤ length ts * max_coef = sum-le ts a (λ u m. o u (Memᴰ.tail m)) in
    omega (arith, term_value-le t a (o t (Memᴰ.head refl)), abs-add (term_value t a) (sum ts a))

-- So every sum of at most 4,096 terms in range is within the largest bound,
pub sum_bound : (ts : List Term) (a : ℕ) → ((t : Term) → Memᴰ t ts → TermOk t) → length ts ≤ max_terms → nat_abs (sum ts a) ≤ max_bound
sum_bound ts a o h = omega (arith, sum-le ts a o)

-- and fits 64 bits.
pub sum_fits : (ts : List Term) (a : ℕ) → ((t : Term) → Memᴰ t ts → TermOk t) → length ts ≤ max_terms → SFits w64 (sum ts a)
sum_fits ts a o h = sfits-abs w64 (sum ts a) (omega (arith, sum_bound ts a o h))
