-- Vectors by place: at most in each place, and the first place where two differ. For the lister.
use mathlib.Core.Path.{◌≡◌, refl}
use mathlib.Core.List.{List, [], ◌∷◌}
use Prim.Native.Nat.{ℕ, zero, suc, ◌+◌, ◌<◌}
use native.Mathlib.Omega.{arith}
use lib.IntN.{ℤ, pos}
use lib.ListN.{length, get_or}
use lib.Signed.{le_z, ◌≤ℤ◌, ≤ℤ_refl}
use Rattle.integers.proofs.SignedLaws.{up, dn, le-to, le_from}
use Rattle.points.specs.Vectors.{le_all, LeAll, Lex}
use Rattle.points.proofs.OrderLaws.{clash, lex-nil, le-head, le-tail, le_yes, and_both, lt_of, Compared, compare}

-- ---- le_all
pub le_all-at : (a b : List ℤ) → LeAll a b → (i : ℕ) → get_or a i (pos 0) ≤ℤ get_or b i (pos 0)
unfolding le_all
le_all-at [] [] h i = ≤ℤ_refl (pos 0)
le_all-at [] (y ∷ ys) h i = clash h refl
le_all-at (x ∷ xs) [] h i = clash h refl
le_all-at (x ∷ xs) (y ∷ ys) h zero = le_from (le-head x y xs ys h)
le_all-at (x ∷ xs) (y ∷ ys) h (suc i) = le_all-at xs ys (le-tail x y xs ys h) i

pub at-le_all : (a b : List ℤ) → length a ≡ length b → ((i : ℕ) → i < length a → get_or a i (pos 0) ≤ℤ get_or b i (pos 0)) → LeAll a b
unfolding le_all
at-le_all [] [] e h = refl
at-le_all [] (y ∷ ys) e h = absurd (omega arith)
at-le_all (x ∷ xs) [] e h = absurd (omega arith)
at-le_all (x ∷ xs) (y ∷ ys) e h = and_both (le_z x y) (le_all xs ys) (le_yes x y (le-to (h 0 (omega arith)))) (at-le_all xs ys (omega arith) (λ i l. h (suc i) (omega arith)))

-- ---- lex
-- a and b differ first at a place where a has less.
pub record Differs (a b : List ℤ) : Type 0 where
  pub place : ℕ
  pub inside : place < length a
  pub same : (i : ℕ) → i < place → get_or a i (pos 0) ≡ get_or b i (pos 0)
  pub less : up (get_or a place (pos 0)) + dn (get_or b place (pos 0)) < up (get_or b place (pos 0)) + dn (get_or a place (pos 0))

pub lex-differs : (a b : List ℤ) → length a ≡ length b → Lex a b → Differs a b
lex-differs [] [] e h = clash h (lex-nil [])
lex-differs [] (y ∷ ys) e h = absurd (omega arith)
lex-differs (x ∷ xs) [] e h = absurd (omega arith)
lex-differs (x ∷ xs) (y ∷ ys) e h = by (lex-differs xs ys (omega arith)) (compare x y xs ys h)
  where
    by : (Lex xs ys → Differs xs ys) → Compared x y xs ys → Differs (x ∷ xs) (y ∷ ys)
    by f (Compared.less p) = record { place = 0; inside = omega arith; same = λ i l. absurd (omega arith); less = lt_of x y p }
    by f (Compared.rest s q) =
        let d = f q in
        record { place = suc d.place; inside = omega (arith, d.inside); same = λ i l. at i l s d.same; less = d.less }
      where
        at : (i : ℕ) {p : ℕ} → i < suc p → x ≡ y → ((j : ℕ) → j < p → get_or xs j (pos 0) ≡ get_or ys j (pos 0)) → get_or (x ∷ xs) i (pos 0) ≡ get_or (y ∷ ys) i (pos 0)
        at zero l u g = u
        at (suc j) l u g = g j (omega arith)
