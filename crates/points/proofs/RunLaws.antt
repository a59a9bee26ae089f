-- Lists of points that stand in runs: what a front asks of its order, and a proper list of its numbers, are one. So it is for the first points.
use mathlib.Core.Path.{◌≡◌, subst}
use mathlib.Core.List.Memᴰ
use mathlib.Core.List.{List, [], ◌∷◌, Memᴰ}
use Prim.Native.Nat.{ℕ, zero, suc, ◌+◌, ◌-◌, ◌<◌}
use native.Mathlib.Omega.{arith}
use lib.IntN.{ℤ}
use lib.ListN.{take, drop, take-append-drop}
use Rattle.instance.specs.Lists.{tabulate}
use Rattle.instance.proofs.ListLaws.{tabulate-each, tabulate-member}
use Rattle.points.specs.Vectors.{Lex, Dominates}
use Rattle.points.specs.Fronts.{Candidate, Rising}
use Rattle.points.specs.Lists.{values_at, point_at, RisingAt, NoneDominates}
use Rattle.points.proofs.FrontLaws.{rising-first, rising-rest}

-- ---- Rising, by index
module _ (g : ℕ → Candidate) where
  pub rising-index : (first n : ℕ) → Rising (tabulate g first n) → (i j : ℕ) → i < j → j < n → Lex (g (first + i)).vector (g (first + j)).vector
  unfolding tabulate
  rising-index first zero r i j l h = absurd (omega arith)
  rising-index first (suc n) r zero j l h =
      let e : first ≡ first + 0 = omega arith in
      let d : suc first + (j - 1) ≡ first + j = omega arith in
      subst (λ (k : ℕ). Lex (g k).vector (g (first + j)).vector) e
      (rising-first (g first) (tabulate g (suc first) n) r (g (first + j)) (subst (λ (k : ℕ). Memᴰ (g k) (tabulate g (suc first) n)) d (tabulate-member g (suc first) n (j - 1) (omega arith))))
  rising-index first (suc n) r (suc i) j l h =
      let d : suc first + (j - 1) ≡ first + j = omega arith in
      let e : suc first + i ≡ first + suc i = omega arith in
      subst (λ (k : ℕ). Lex (g k).vector (g (first + j)).vector) e
      (subst (λ (k : ℕ). Lex (g (suc first + i)).vector (g k).vector) d (rising-index (suc first) n (rising-rest (g first) (tabulate g (suc first) n) r) i (j - 1) (omega arith) (omega arith)))

  pub index-rising : (first n : ℕ) → ((i j : ℕ) → i < j → j < n → Lex (g (first + i)).vector (g (first + j)).vector) → Rising (tabulate g first n)
  unfolding tabulate Rising
  index-rising first zero h = tt
  index-rising first (suc n) h = (
    tabulate-each g (λ (y : Candidate). Lex (g first).vector y.vector) (suc first) n
        (λ k l.
        let e : first + 0 ≡ first = omega arith in
        let d : first + suc k ≡ suc first + k = omega arith in
        subst (λ (m : ℕ). Lex (g m).vector (g (suc first + k)).vector) e (subst (λ (m : ℕ). Lex (g (first + 0)).vector (g m).vector) d (h 0 (suc k) (omega arith) (omega arith)))),
    index-rising (suc first) n
        (λ i j l m.
        let e : first + suc i ≡ suc first + i = omega arith in
        let d : first + suc j ≡ suc first + j = omega arith in
        subst (λ (k : ℕ). Lex (g k).vector (g (suc first + j)).vector) e (subst (λ (k : ℕ). Lex (g (first + suc i)).vector (g k).vector) d (h (suc i) (suc j) (omega arith) (omega arith)))),
  )

-- ---- Rising, of the first points
pub take-member : (k : ℕ) (xs : List Candidate) (x : Candidate) → Memᴰ x (take k xs) → Memᴰ x xs
take-member k xs x m = subst (λ (l : List Candidate). Memᴰ x l) (take-append-drop k xs) (Memᴰ.append_left (drop k xs) m)

pub take-rising : (k : ℕ) (xs : List Candidate) → Rising xs → Rising (take k xs)
unfolding Rising
take-rising zero xs r = tt
take-rising (suc k) [] r = tt
take-rising (suc k) (x ∷ xs) r = (λ y m. rising-first x xs r y (take-member k xs y m), take-rising k xs (rising-rest x xs r))

-- ---- the points of two runs, as the list that they are, and by index
module _ (vs : List ℤ) (ms : List ℕ) (points : ℕ) where
  member : (i : ℕ) → i < points → Memᴰ (point_at vs ms i) (tabulate (point_at vs ms) 0 points)
  member i h =
      let e : 0 + i ≡ i = omega arith in
      subst (λ (k : ℕ). Memᴰ (point_at vs ms k) (tabulate (point_at vs ms) 0 points)) e (tabulate-member (point_at vs ms) 0 points i h)

  pub runs-rise : Rising (tabulate (point_at vs ms) 0 points) → RisingAt points vs
  runs-rise r k h =
      let e : 0 + k ≡ k = omega arith in
      let d : 0 + (k + 1) ≡ k + 1 = omega arith in
      subst (λ (i : ℕ). Lex (values_at vs i) (values_at vs (k + 1))) e
      (subst (λ (i : ℕ). Lex (values_at vs (0 + k)) (values_at vs i)) d (rising-index (point_at vs ms) 0 points r k (k + 1) (omega arith) h))

  pub runs-apart : ((x y : Candidate) → Memᴰ x (tabulate (point_at vs ms) 0 points) → Memᴰ y (tabulate (point_at vs ms) 0 points) → Dominates x.vector y.vector → ⊥) → NoneDominates points vs
  runs-apart apart i j h l d = apart (point_at vs ms i) (point_at vs ms j) (member i h) (member j l) d
