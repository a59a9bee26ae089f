-- The order of costs in normal tables is the order of vectors. Assumes nothing.
use mathlib.Core.Path.{◌≡◌, refl, sym, ap, ◌∙◌, subst}
use mathlib.Core.Logic.{◌⊎◌, inl, inr, ⊎_elim}
use mathlib.Core.List.{List}
use Prim.Native.Nat.{ℕ, zero, suc, ◌+◌, ◌≤◌, ◌<◌}
use native.Mathlib.Omega.{arith}
use native.Mathlib.Decide.{dec_lt}
use lib.IntN.{ℤ, pos}
use lib.ListN.{get_or}
use lib.Signed.{◌≤ℤ◌, ≤ℤ_refl}
use Rattle.integers.proofs.SignedLaws.{up, dn, le-to, ≤ℤ-eq}
use Rattle.charging.specs.Rows.{bit}
use Rattle.capping.specs.declared.problems.Problem.{Problem}
use Rattle.capping.specs.Caps.{vec, less}
use Rattle.instance.specs.Meaning.{meaning, vector}
use Rattle.judge.specs.Judging.{padded}
use Rattle.judge.proofs.VectorLaws.{vector-at, vector-none, padded-get_or}
use Rattle.normal.specs.Costs.{value_of}
use Rattle.normal.specs.Normal.{InOrder}
use Rattle.points.specs.Vectors.{LeAll, Lex}
use Rattle.points.proofs.OrderLaws.{le_all-refl}
use Rattle.points.proofs.PlaceLaws.{le_all-at, at-le_all, Differs, lex-differs}

-- the first difference decides
pub less-at : (m j p : ℕ) (f g : ℕ → ℕ) → j ≤ p → p < j + m → ((i : ℕ) → i < p → f i ≡ g i) → f p < g p → less m j f g
unfolding less
less-at zero j p f g l h e d = absurd (omega arith)
less-at (suc m) j p f g l h e d =
    ⊎_elim (λ z. inl (subst (λ (i : ℕ). f i < g i) (sym z) d)) (λ z. inr (e j (omega arith), less-at m (j + 1) p f g (omega arith) (omega arith) e d)) (first (dec_lt j p))
  where
    first : Dec (j < p) → (j ≡ p) ⊎ (j < p)
    first (yes u) = inr u
    first (no u) = inl (omega arith)

module _ {ts rs : List ℤ} (problem : Problem 4) (nm : InOrder ts rs problem.count problem.rows problem.costs.now) where
  -- The four values of an assignment, and its costs.
  abbrev pub four : ℕ → List ℤ
  four a = padded (vector (meaning ts rs) a)

  abbrev pub costs : ℕ → ℕ → ℕ
  costs a = vec problem (bit a)

  at-used : (a i : ℕ) → i < problem.count → get_or (four a) i (pos 0) ≡ value_of ts rs i a
  at-used a i h = padded-get_or (vector (meaning ts rs) a) i (omega (arith, problem.few)) ∙ vector-at ts rs a i (omega (arith, nm.objectives))

  at-unused : (a i : ℕ) → problem.count ≤ i → i < 4 → get_or (four a) i (pos 0) ≡ pos 0
  at-unused a i h l = padded-get_or (vector (meaning ts rs) a) i l ∙ vector-none ts rs a i (omega (arith, nm.objectives))

  -- ---- at most in every place
  le-at : (a b i : ℕ) {x y : ℤ} → get_or (four a) i (pos 0) ≡ x → get_or (four b) i (pos 0) ≡ y → x ≤ℤ y → get_or (four a) i (pos 0) ≤ℤ get_or (four b) i (pos 0)
  le-at a b i {x} {y} e f h = subst (λ (z : ℤ). z ≤ℤ get_or (four b) i (pos 0)) (sym e) (subst (λ (z : ℤ). x ≤ℤ z) (sym f) h)

  pub le-vectors : (a b : ℕ) → ((i : ℕ) → i < problem.count → costs a i ≤ costs b i) → LeAll (four a) (four b)
  le-vectors a b h = at-le_all (four a) (four b) refl (λ i l. by i l (dec_lt i problem.count))
    where
      by : (i : ℕ) → i < 4 → Dec (i < problem.count) → get_or (four a) i (pos 0) ≤ℤ get_or (four b) i (pos 0)
      by i l (yes u) = le-at a b i (at-used a i u) (at-used b i u) ((nm.priced.each i u).value_le a b (h i u))
      by i l (no u) = le-at a b i (at-unused a i (omega arith) l) (at-unused b i (omega arith) l) (≤ℤ_refl (pos 0))

  pub le-costs : (a b : ℕ) → LeAll (four a) (four b) → (i : ℕ) → i < problem.count → costs a i ≤ costs b i
  le-costs a b h i l =
      (nm.priced.each i l).cost_le a b
      (subst (λ (z : ℤ). z ≤ℤ value_of ts rs i b) (at-used a i l) (subst (λ (z : ℤ). get_or (four a) i (pos 0) ≤ℤ z) (at-used b i l) (le_all-at (four a) (four b) h i)))

  pub same-costs : (a b : ℕ) → four a ≡ four b → (i : ℕ) → i < problem.count → costs a i ≡ costs b i
  same-costs a b e i l =
      omega (arith, le-costs a b (subst (λ (v : List ℤ). LeAll (four a) v) e (le_all-refl (four a))) i l, le-costs b a (subst (λ (v : List ℤ). LeAll v (four a)) e (le_all-refl (four a))) i l)

  -- ---- before
  -- The first place where vectors differ is that of an objective, as unused values are 0; there and before costs compare as values do.
  pub lex-costs : (a b : ℕ) → Lex (four a) (four b) → less problem.count 0 (costs a) (costs b)
  lex-costs a b h = by (lex-differs (four a) (four b) refl h)
    where
      equal : (i : ℕ) → i < problem.count → get_or (four a) i (pos 0) ≡ get_or (four b) i (pos 0) → costs a i ≡ costs b i
      equal i l e =
          let v : value_of ts rs i a ≡ value_of ts rs i b = sym (at-used a i l) ∙ e ∙ at-used b i l in
          omega (arith, (nm.priced.each i l).cost_le a b (≤ℤ-eq v), (nm.priced.each i l).cost_le b a (≤ℤ-eq (sym v)))

      by : Differs (four a) (four b) → less problem.count 0 (costs a) (costs b)
      by q = at (dec_lt q.place problem.count)
        where
          at : Dec (q.place < problem.count) → less problem.count 0 (costs a) (costs b)
          at (yes u) = less-at problem.count 0 q.place (costs a) (costs b) (omega arith) (omega arith) (λ i l. equal i (omega arith) (q.same i l)) (here (dec_lt (costs a q.place) (costs b q.place)))
            where
              here : Dec (costs a q.place < costs b q.place) → costs a q.place < costs b q.place
              here (yes m) = m
              here (no m) =
                  absurd
                  (omega (
                    arith,
                    le-to ((nm.priced.each q.place u).value_le b a (omega arith)),
                    q.less,
                    ap up (at-used a q.place u),
                    ap dn (at-used a q.place u),
                    ap up (at-used b q.place u),
                    ap dn (at-used b q.place u),
                  ))
          at (no u) =
              absurd
              (omega (
                arith,
                q.less,
                ap up (at-unused a q.place (omega arith) q.inside),
                ap dn (at-unused a q.place (omega arith) q.inside),
                ap up (at-unused b q.place (omega arith) q.inside),
                ap dn (at-unused b q.place (omega arith) q.inside),
              ))
