-- The lent runs after listing: point k of the runs is point k of the list, so a list that listing answered is proper and can always be filed.
-- Assumes nothing.
use mathlib.Core.Path.{◌≡◌, refl, sym, ap, ap₂, ◌∙◌, subst}
use mathlib.Core.List.{List, [], ◌∷◌, ◌++◌, append_assoc, Memᴰ}
use Prim.Native.Nat.{ℕ, zero, suc, ◌+◌, ◌*◌, ◌/◌, ◌%◌, ◌^◌, ◌≤◌, ◌<◌}
use native.Mathlib.Nat.{mod-lt, div-add-mod'}
use native.Mathlib.Omega.{arith}
use lib.IntN.{ℤ, pos, nat_abs}
use lib.ListN.{length, get_or, take, drop, length-append, length-map, get_or-append, get_or-map}
use lib.Seq.{get_or-append-add, length-take-le}
use Rattle.std.specs.Prelude.{Ok, Err}
use Rattle.instance.specs.Lists.{tabulate}
use Rattle.instance.specs.Tables.{objectives_in, IsInstance}
use Rattle.instance.specs.Meaning.{meaning, vector}
use Rattle.instance.proofs.ListLaws.{tabulate-list}
use Rattle.instance.proofs.InstanceLaws.{variables-le}
use Rattle.instance.proofs.MeaningLaws.{instance-within}
use Rattle.judge.specs.Judging.{padded}
use Rattle.judge.proofs.VectorLaws.{padded-as, padded-get_or, padded-take, value-bound, vector-none}
use Rattle.points.specs.Limits.{max_points, max_value}
use Rattle.points.specs.Vectors.{Dominates}
use Rattle.points.specs.Fronts.{Candidate, Rising}
use Rattle.points.specs.Lists.{point_at, Proper}
use Rattle.points.proofs.FrontLaws.{candidate-same}
use Rattle.points.proofs.RunLaws.{take-member, take-rising, runs-rise, runs-apart}
use Rattle.front.specs.Listing.{CandidateOf, FrontOf, room, values_of, models_of, values_left, models_left}
use Rattle.front.specs.Answers.{ListedAs}
use Rattle.front.specs.declared.errors.ListError.TheVariants.{Larger}
use Rattle.front.proofs.StepLaws.{values_length, candidate-four}

-- ---- points by place

-- Point k of a list; where there is none, one with no values.
abbrev point : List Candidate → ℕ → Candidate
point xs k = get_or xs k (record { vector = []; model = 0 })

point-member : (xs : List Candidate) (k : ℕ) → k < length xs → Memᴰ (point xs k) xs
point-member [] k h = absurd (omega arith)
point-member (x ∷ xs) zero h = Memᴰ.head refl
point-member (x ∷ xs) (suc k) h = Memᴰ.tail (point-member xs k (omega arith))

-- Each has four values.
abbrev Fours : List Candidate → Type 0
Fours xs = (x : Candidate) → Memᴰ x xs → length x.vector ≡ 4

-- ---- values_of, models_of: what stands after the points does not matter

values-at : (xs : List Candidate) (ws : List ℤ) → Fours xs → (k j : ℕ) → k < length xs → j < 4 → get_or (values_of xs ++ ws) (k * 4 + j) (pos 0) ≡ get_or (point xs k).vector j (pos 0)
unfolding values_of
values-at [] ws f k j h l = absurd (omega arith)
values-at (x ∷ xs) ws f zero j h l =
    let e : 0 * 4 + j ≡ j = omega arith in
    ap (λ (n : ℕ). get_or ((x.vector ++ values_of xs) ++ ws) n (pos 0)) e
    ∙ ap (λ (r : List ℤ). get_or r j (pos 0)) (append_assoc x.vector (values_of xs) ws)
    ∙ get_or-append x.vector (values_of xs ++ ws) (pos 0) j (omega (arith, f x (Memᴰ.head refl)))
values-at (x ∷ xs) ws f (suc k) j h l =
    let e : suc k * 4 + j ≡ length x.vector + (k * 4 + j) = omega (arith, f x (Memᴰ.head refl)) in
    ap (λ (n : ℕ). get_or ((x.vector ++ values_of xs) ++ ws) n (pos 0)) e
    ∙ ap (λ (r : List ℤ). get_or r (length x.vector + (k * 4 + j)) (pos 0)) (append_assoc x.vector (values_of xs) ws)
    ∙ get_or-append-add x.vector (values_of xs ++ ws) (k * 4 + j) (pos 0)
    ∙ values-at xs ws (λ y m. f y (Memᴰ.tail m)) k j (omega arith) l

models-at : (xs : List Candidate) (os : List ℕ) (k : ℕ) → k < length xs → get_or (models_of xs ++ os) k 0 ≡ (point xs k).model
models-at xs os k h =
    get_or-append (models_of xs) os 0 k (omega (arith, length-map xs (λ c. c.model)))
    ∙ get_or-map (λ (c : Candidate). c.model) xs k (record { vector = []; model = 0 })

four-whole : (v : List ℤ) → length v ≡ 4 → padded v ≡ v
four-whole v e = sym (ap (λ (n : ℕ). take n (padded v)) e) ∙ padded-take v (omega arith)

module _ (xs : List Candidate) (four : Fours xs) (vs : List ℤ) (ms : List ℕ) where
  at_place : (k : ℕ) → k < length xs → point_at (values_left xs vs) (models_left xs ms) k ≡ point xs k
  at_place k h =
      let v = (point xs k).vector in
      let e : k * 4 ≡ k * 4 + 0 = omega arith in
      let ws = drop (length xs * 4) vs in
      candidate-same
      (padded-as v (ap (λ (n : ℕ). get_or (values_left xs vs) n (pos 0)) e ∙ values-at xs ws four k 0 h (omega arith))
      (values-at xs ws four k 1 h (omega arith)) (values-at xs ws four k 2 h (omega arith)) (values-at xs ws four k 3 h (omega arith))
      ∙ four-whole v (four (point xs k) (point-member xs k h)))
      (models-at xs (drop (length xs) ms) k h)

  -- The first points of the runs are the list.
  pub runs-points : tabulate (point_at (values_left xs vs) (models_left xs ms)) 0 (length xs) ≡ xs
  runs-points =
      tabulate-list (point_at (values_left xs vs) (models_left xs ms)) 0 (record { vector = []; model = 0 }) xs
      (λ k h. let e : 0 + k ≡ k = omega arith in ap (point_at (values_left xs vs) (models_left xs ms)) e ∙ at_place k h)

-- ---- Proper

-- Candidates that rise, of which none dominates another, are a proper list where there is room for them: values are sums of an instance.
module _ {ts rs : List ℤ} (is : IsInstance ts rs) (xs : List Candidate) (members : (x : Candidate) → Memᴰ x xs → CandidateOf (meaning ts rs) x) (vs : List ℤ) (ms : List ℕ) where
  four : Fours xs
  four x m = candidate-four x (members x m)

  -- Number i of the run is a value of the assignment of point i / 4.
  number : (i : ℕ) → i < length xs * 4 → get_or (values_left xs vs) i (pos 0) ≡ get_or (vector (meaning ts rs) (point xs (i / 4)).model) (i % 4) (pos 0)
  number i h =
      let x = point xs (i / 4) in
      let l : i / 4 < length xs = omega (arith, div-add-mod' i 4) in
      let e : i ≡ i / 4 * 4 + i % 4 = omega (arith, div-add-mod' i 4) in
      ap (λ (n : ℕ). get_or (values_left xs vs) n (pos 0)) e
      ∙ values-at xs (drop (length xs * 4) vs) four (i / 4) (i % 4) l (mod-lt i (omega arith))
      ∙ ap (λ (v : List ℤ). get_or v (i % 4) (pos 0)) (members x (point-member xs (i / 4) l)).has_vector
      ∙ padded-get_or (vector (meaning ts rs) x.model) (i % 4) (mod-lt i (omega arith))

  pub runs-proper : Rising xs → ((x y : Candidate) → Memᴰ x xs → Memᴰ y xs → Dominates x.vector y.vector → ⊥) → length xs ≤ max_points
      → Proper (objectives_in rs) (meaning ts rs).variables (length xs) (values_left xs vs) (models_left xs ms)
  runs-proper rising apart few =
      let e = runs-points xs four vs ms in
      record {
        some_objective = is.some_objective;
        few_objectives = is.few_objectives;
        few_variables = variables-le is;
        few_points = few;
        values_room = omega (arith, length-append (values_of xs) (drop (length xs * 4) vs), values_length xs four);
        models_room = omega (arith, length-append (models_of xs) (drop (length xs) ms), length-map xs (λ c. c.model));
        in_range = λ i h. subst (λ (z : ℤ). nat_abs z ≤ max_value) (sym (number i h)) (value-bound (instance-within is) (point xs (i / 4)).model (i % 4));
        unused = λ i h l. number i h ∙ vector-none ts rs (point xs (i / 4)).model (i % 4) l;
        bits = λ k h.
            subst (λ (a : ℕ). a < 2 ^ (meaning ts rs).variables) (sym (models-at xs (drop (length xs) ms) k h))
            (members (point xs k) (point-member xs k h)).feasible.bits;
        rising = runs-rise (values_left xs vs) (models_left xs ms) (length xs) (subst Rising (sym e) rising);
        apart = runs-apart (values_left xs vs) (models_left xs ms) (length xs)
            (subst (λ (l : List Candidate). (x y : Candidate) → Memᴰ x l → Memᴰ y l → Dominates x.vector y.vector → ⊥) (sym e) apart);
      }

-- ---- ListedAs

proper-as : {o n j k : ℕ} {vs vs' : List ℤ} {ms ms' : List ℕ} → j ≡ k → vs ≡ vs' → ms ≡ ms' → Proper o n k vs' ms' → Proper o n j vs ms
proper-as {o} {n} {j} {k} {vs} {vs'} {ms} {ms'} e f g p =
    subst (λ (q : ℕ). Proper o n q vs ms) (sym e) (subst (λ (l : List ℤ). Proper o n k l ms) (sym f) (subst (λ (l : List ℕ). Proper o n k vs' l) (sym g) p))

module _ {ts rs vs : List ℤ} {ms : List ℕ} {vs' : List ℤ} {ms' : List ℕ} {k : ℕ} where
  -- The first k points of the runs are the front: what is known of it (front-good of AnswerLaws) is known of them.
  pub listed-points : (l : ListedAs ts rs vs ms vs' ms' (Ok k)) → tabulate (point_at vs' ms') 0 k ≡ l.front
  listed-points l =
      ap (λ (n : ℕ). tabulate (point_at vs' ms') 0 n) l.count
      ∙ ap₂ (λ (p : List ℤ) (q : List ℕ). tabulate (point_at p q) 0 (length l.front)) l.values l.models
      ∙ runs-points l.front (λ x m. candidate-four x (l.is_front.members x m)) vs ms

  pub listed-front : ListedAs ts rs vs ms vs' ms' (Ok k) → FrontOf (meaning ts rs) (tabulate (point_at vs' ms') 0 k)
  listed-front l = subst (FrontOf (meaning ts rs)) (sym (listed-points l)) l.is_front

  -- A front that is done is proper,
  pub listed-proper : ListedAs ts rs vs ms vs' ms' (Ok k) → Proper (objectives_in rs) (meaning ts rs).variables k vs' ms'
  listed-proper l =
      proper-as l.count l.values l.models
      (runs-proper l.is l.front l.is_front.members vs ms l.is_front.rising l.is_front.apart (omega (arith, l.fits)))

  -- and so are the first R points of one that is larger than the room.
  pub first-proper : ListedAs ts rs vs ms vs' ms' (Err (Larger k)) → Proper (objectives_in rs) (meaning ts rs).variables k vs' ms'
  first-proper l =
      let xs = take (room vs ms) l.front in
      let within : (x : Candidate) → Memᴰ x xs → Memᴰ x l.front = take-member (room vs ms) l.front in
      let n : length xs ≡ room vs ms = length-take-le (room vs ms) l.front (omega (arith, l.larger)) in
      proper-as (l.count ∙ sym n) l.values l.models
      (runs-proper l.is xs (λ x m. l.is_front.members x (within x m)) vs ms (take-rising (room vs ms) l.front l.is_front.rising)
      (λ x y m u. l.is_front.apart x y (within x m) (within y u)) (omega (arith, n)))
