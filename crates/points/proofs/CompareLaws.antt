-- `a < b` of two arrays and `all` over the pairs of two arrays are the tests of specs/Vectors.antt; and the parts of a run by place.
use mathlib.Core.Path.{◌≡◌, refl, sym, ap, ap₂, subst, ◌∙◌}
use mathlib.Core.Bool.{Bool, true, false, cond, ◌&&◌}
use mathlib.Core.List.{List, [], ◌∷◌}
use Prim.Native.Nat.{ℕ, zero, suc, ◌+◌, ◌*◌, ◌≤◌, ◌<◌}
use native.Mathlib.Omega.{arith}
use lib.IntN.{ℤ, pos}
use lib.ListN.{length, get_or, take, drop, length-drop}
use Rattle.std.proofs.lemmas.List.{get_or-drop}
use lib.Signed.{lt_z, le_z}
use Rattle.std.specs.declared.option.Option.TheVariants.{Some}
use Rattle.std.specs.declared.cmp.Ordering.{Ordering}
use Rattle.std.specs.declared.cmp.Ordering.TheVariants.{Less, Equal, Greater}
use Rattle.std.specs.Ordering.{MatchOrdering, int_cmp, is_some_and, is_lt}
use Rattle.std.specs.Cmp.Lexicographic.{slice_partial_cmp}
use Rattle.std.specs.List.{list_all, zip, IsAllAdjacentAnswer}
use Rattle.std.specs.Simd.{first_chunks}
use Rattle.std.proofs.lemmas.Cmp.{same_from_slice_cmp_tested}
use Rattle.instance.proofs.ChunkLaws.{chunk-at}
use Rattle.points.specs.Vectors.{le_all, lex}
use Rattle.instance.specs.Tests.{Decides}
use Rattle.instance.proofs.TestLaws.{holds, fails}
use Rattle.points.specs.Lists.{values_at, RowsRise}
use Rattle.points.proofs.OrderLaws.{clash, lex-less, lex-more, lex-next}

-- ---- lex
-- What an answer of `cmp` says of `lex`.
abbrev Says : ℤ → ℤ → List ℤ → List ℤ → Ordering → Type 0
Says x y xs ys o = MatchOrdering o (lex (x ∷ xs) (y ∷ ys) ≡ true) (lex (x ∷ xs) (y ∷ ys) ≡ lex xs ys) (lex (x ∷ xs) (y ∷ ys) ≡ false)

pub lex-cmp : (a b : List ℤ) (r : Bool) → r ≡ is_some_and is_lt (slice_partial_cmp (λ x y. Some (int_cmp x y)) a b) → r ≡ lex a b
unfolding lex
lex-cmp = same_from_slice_cmp_tested int_cmp is_lt lex refl (λ y ys. refl) (λ x xs. refl) (λ x y xs ys o h. by x y xs ys (lt_z x y) refl (lt_z y x) refl o h)
  where
    by : (x y : ℤ) (xs ys : List ℤ) (t : Bool) → lt_z x y ≡ t → (u : Bool) → lt_z y x ≡ u → (o : Ordering) → o ≡ cond t Less (cond u Greater Equal) → Says x y xs ys o
    by x y xs ys true e u f o h = subst (Says x y xs ys) (sym h) (lex-less x y xs ys e)
    by x y xs ys false e true f o h = subst (Says x y xs ys) (sym h) (lex-more x y xs ys e f)
    by x y xs ys false e false f o h = subst (Says x y xs ys) (sym h) (lex-next x y xs ys e f)

-- ---- le_all
pub le_all-zip : (a b : List ℤ) → length a ≡ length b → list_all (λ (p : ℤ × ℤ). le_z p.0 p.1) (zip a b) ≡ le_all a b
unfolding le_all
le_all-zip [] [] e = refl
le_all-zip [] (y ∷ ys) e = absurd (omega arith)
le_all-zip (x ∷ xs) [] e = absurd (omega arith)
le_all-zip (x ∷ xs) (y ∷ ys) e = ap (λ (t : Bool). le_z x y && t) (le_all-zip xs ys (omega arith))

-- ---- parts of a run
take-four : (xs : List ℤ) → 4 ≤ length xs → take 4 xs ≡ values_at xs 0
take-four [] h = absurd (omega arith)
take-four (a ∷ []) h = absurd (omega arith)
take-four (a ∷ (b ∷ [])) h = absurd (omega arith)
take-four (a ∷ (b ∷ (c ∷ []))) h = absurd (omega arith)
take-four (a ∷ (b ∷ (c ∷ (d ∷ xs)))) h = refl

pub row-values : (vs : List ℤ) (m k : ℕ) → k < m → m * 4 ≤ length vs → get_or (first_chunks 4 m vs) k [] ≡ values_at vs k
row-values vs m k h l =
    chunk-at 4 m vs k h
    ∙ (take-four (drop (k * 4) vs) (omega (arith, length-drop (k * 4) vs))
    ∙ ap₂ ◌∷◌ (get_or-drop (k * 4) vs 0 (pos 0) ∙ ap (λ (i : ℕ). get_or vs i (pos 0)) (omega arith))
    (ap₂ ◌∷◌ (get_or-drop (k * 4) vs 1 (pos 0))
    (ap₂ ◌∷◌ (get_or-drop (k * 4) vs 2 (pos 0)) (ap (λ (z : ℤ). z ∷ []) (get_or-drop (k * 4) vs 3 (pos 0))))))

pub value-of : (vs : List ℤ) (k i : ℕ) → i < 4 → get_or (values_at vs k) i (pos 0) ≡ get_or vs (k * 4 + i) (pos 0)
value-of vs k zero h = let e : k * 4 ≡ k * 4 + 0 = omega arith in ap (λ (j : ℕ). get_or vs j (pos 0)) e
value-of vs k (suc zero) h = refl
value-of vs k (suc (suc zero)) h = refl
value-of vs k (suc (suc (suc zero))) h = refl
value-of vs k (suc (suc (suc (suc i)))) h = absurd (omega arith)

-- ---- neighbours
pub rises : (rows : List (List ℤ)) (r : Bool) → IsAllAdjacentAnswer (λ x y b. b ≡ lex x y) rows r → Decides r (RowsRise rows)
rises rows true h = holds (λ k l. sym (h k [] l))
rises rows false h = fails (λ g. clash (g h.0 h.1) (sym (h.2 [])))
