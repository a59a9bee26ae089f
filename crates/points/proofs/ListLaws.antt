-- Lists in lent runs: vectors that rise one by one rise over all, and then to look for dominance among later points is enough.
use mathlib.Core.Path.{◌≡◌, sym, ap, ap₂, subst, ◌∙◌}
use mathlib.Core.List.{List, [], ◌∷◌, ◌++◌}
use Prim.Native.Nat.{ℕ, zero, suc, ◌+◌, ◌-◌, ◌*◌, ◌^◌, ◌≤◌, ◌<◌}
use native.Mathlib.Decide.{dec_lt}
use native.Mathlib.Omega.{arith}
use lib.IntN.{ℤ, pos, nat_abs}
use lib.ListN.{length, get_or, length-append, get_or-append}
use Rattle.points.specs.Vectors.{lex, Lex, le_all}
use Rattle.points.specs.Limits.{max_value}
use Rattle.points.specs.Lists.{values_at, model_at, RisingAt, Apart, NoneDominates, Proper}
use Rattle.points.proofs.OrderLaws.{lex_irrefl, lex-trans, le_all-lex}

module _ (vs : List ℤ) where
  -- ---- RisingAt
  -- Each vector comes before all after it.
  pub rising-all : {points : ℕ} → RisingAt points vs → (i d : ℕ) → i + suc d < points → Lex (values_at vs i) (values_at vs (i + suc d))
  rising-all r i zero h = subst (λ (j : ℕ). Lex (values_at vs i) (values_at vs j)) (omega arith) (r i (omega arith))
  rising-all r i (suc d) h =
      let e : i + suc d + 1 ≡ i + suc (suc d) = omega arith in
      lex-trans (values_at vs i) (values_at vs (i + suc d)) (values_at vs (i + suc (suc d))) (rising-all r i d (omega arith))
      (subst (λ (j : ℕ). Lex (values_at vs (i + suc d)) (values_at vs j)) e (r (i + suc d) (omega arith)))

  pub rising-before : {points : ℕ} → RisingAt points vs → (i j : ℕ) → i < j → j < points → Lex (values_at vs i) (values_at vs j)
  rising-before r i j l h =
      let e : i + suc (j - i - 1) ≡ j = omega arith in
      subst (λ (k : ℕ). Lex (values_at vs i) (values_at vs k)) e (rising-all r i (j - i - 1) (omega arith))

  -- ---- NoneDominates, where vectors rise: a later point is not at most an earlier one, and two points are not equal.
  module _ {points : ℕ} (r : RisingAt points vs) where
    pub apart_none : Apart points vs → NoneDominates points vs
    apart_none a i j h l d = by (dec_lt i j) (dec_lt j i)
      where
        by : Dec (i < j) → Dec (j < i) → ⊥
        by (yes p) q = a i j p l d.at_most
        by (no p) (yes q) = le_all-lex (values_at vs i) (values_at vs j) d.at_most (rising-before r j i q h)
        by (no p) (no q) = let e : i ≡ j = omega arith in d.differs (ap (values_at vs) e)

    pub none_apart : NoneDominates points vs → Apart points vs
    none_apart n a k l b t =
        n a k (omega arith) b
        (record {
          at_most = t;
          differs = λ e. lex_irrefl (values_at vs k) (subst (λ (v : List ℤ). Lex v (values_at vs k)) e (rising-before r a k l b));
        })

-- ---- Proper looks at the first points only
module _ {points : ℕ} (vs vs' : List ℤ) (same : (i : ℕ) → i < points * 4 → get_or vs' i (pos 0) ≡ get_or vs i (pos 0)) where
  pub values_same : (k : ℕ) → k < points → values_at vs' k ≡ values_at vs k
  values_same k h =
      ap₂ ◌∷◌ (same (k * 4) (omega arith))
      (ap₂ ◌∷◌ (same (k * 4 + 1) (omega arith)) (ap₂ ◌∷◌ (same (k * 4 + 2) (omega arith)) (ap (λ (z : ℤ). z ∷ []) (same (k * 4 + 3) (omega arith)))))

  pub proper-same : {objectives n : ℕ} (ms ms' : List ℕ) → ((k : ℕ) → k < points → model_at ms' k ≡ model_at ms k) → points * 4 ≤ length vs' → points ≤ length ms'
      → Proper objectives n points vs ms → Proper objectives n points vs' ms'
  proper-same {n = n} ms ms' models room room' p = record {
    some_objective = p.some_objective;
    few_objectives = p.few_objectives;
    few_variables = p.few_variables;
    few_points = p.few_points;
    values_room = room;
    models_room = room';
    in_range = λ i h. subst (λ (z : ℤ). nat_abs z ≤ max_value) (sym (same i h)) (p.in_range i h);
    unused = λ i h l. same i h ∙ p.unused i h l;
    bits = λ k h. subst (λ (m : ℕ). m < 2 ^ n) (sym (models k h)) (p.bits k h);
    rising = λ k h. ap₂ lex (values_same k (omega arith)) (values_same (k + 1) h) ∙ p.rising k h;
    apart = λ i j h l d.
        p.apart i j h l
        (record {
          at_most = sym (ap₂ le_all (values_same i h) (values_same j l)) ∙ d.at_most;
          differs = λ e. d.differs (values_same i h ∙ (e ∙ sym (values_same j l)));
        });
  }

-- So what stands after them does not matter.
pub proper-append : {objectives n points : ℕ} (vs ws : List ℤ) (ms os : List ℕ) → length vs ≡ points * 4 → length ms ≡ points → Proper objectives n points vs ms → Proper objectives n points (vs ++ ws) (ms ++ os)
proper-append vs ws ms os e f =
    proper-same vs (vs ++ ws) (λ i h. get_or-append vs ws (pos 0) i (omega arith)) ms (ms ++ os) (λ k h. get_or-append ms os 0 k (omega arith)) (omega (arith, length-append vs ws)) (omega (arith, length-append ms os))
