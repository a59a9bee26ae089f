-- One point more is listed; then the end, where the list is the front or its first points. Assumes nothing.
use mathlib.Core.Path.{◌≡◌, refl, sym, ap, ap₂, ◌∙◌, subst}
use mathlib.Core.List.{List, [], ◌∷◌, ◌++◌, append_assoc, append-nil, Memᴰ}
use Prim.Native.Nat.{ℕ, suc, ◌+◌, ◌*◌, ◌≤◌, ◌<◌}
use native.Mathlib.Omega.{arith}
use native.Mathlib.Decide.{dec_lt}
use native.Mathlib.Numerals.{add-one}
use lib.IntN.{ℤ}
use lib.ListN.{length, get_or, set, take, drop, length-append, length-map, length-set, get_or-append}
use lib.Seq.{drop-cons, drop-drop, set_at, get_or_at, get_or-set_same, get_or-set_other}
use Rattle.std.specs.Prelude.{Option, Some, None}
use Rattle.std.proofs.Math.Seq.{take-append_seam, drop-append-add}
use Rattle.std.proofs.lemmas.List.{map-append, length-take-le, get_or-take, take_all}
use Rattle.charging.specs.Rows.{bit}
use Rattle.capping.specs.declared.trades.Trade.{Trade}
use Rattle.capping.specs.declared.problems.Problem.{Problem}
use Rattle.capping.specs.Caps.{vec, at, row, no_trade}
use Rattle.advancing.specs.Next.{IsNext, Ended, Next}
use Rattle.instance.specs.Meaning.{Instance, meaning, vector}
use Rattle.judge.specs.Judging.{padded}
use Rattle.normal.specs.Normal.{InOrder}
use Rattle.points.specs.Fronts.{Candidate}
use Rattle.points.specs.Lists.{values_put}
use Rattle.points.proofs.BeginLaws.{begins-more, begins-all, begins-front, begins-short}
use Rattle.front.specs.Listing.{CandidateOf, values_of, models_of, values_left, models_left, Lists}
use Rattle.front.specs.Computed.{front_of}
use Rattle.front.proofs.FrontLaws.{smaller-order, front-of}
use Rattle.front.proofs.ListingLaws.{candidate, Listing, comes-next, none-fresh}

-- ---- values_of, models_of

pub values_length : (xs : List Candidate) → ((x : Candidate) → Memᴰ x xs → length x.vector ≡ 4) → length (values_of xs) ≡ length xs * 4
unfolding values_of
values_length [] h = refl
values_length (x ∷ xs) h = omega (arith, length-append x.vector (values_of xs), h x (Memᴰ.head refl), values_length xs (λ y m. h y (Memᴰ.tail m)))

values-snoc : (xs : List Candidate) (x : Candidate) → values_of (xs ++ (x ∷ [])) ≡ values_of xs ++ x.vector
unfolding values_of
values-snoc [] x = append-nil x.vector
values-snoc (y ∷ ys) x = ap (λ (l : List ℤ). y.vector ++ l) (values-snoc ys x) ∙ sym (append_assoc y.vector (values_of ys) x.vector)

length-snoc : (xs : List Candidate) (x : Candidate) → length (xs ++ (x ∷ [])) ≡ length xs + 1
length-snoc xs x = length-append xs (x ∷ [])

models-snoc : (xs : List Candidate) (x : Candidate) → models_of (xs ++ (x ∷ [])) ≡ models_of xs ++ (x.model ∷ [])
models-snoc xs x = map-append (λ c. c.model) xs (x ∷ [])

-- ---- the runs with one point more

pub candidate-four : {i : Instance} (c : Candidate) → CandidateOf i c → length c.vector ≡ 4
candidate-four c p = ap length p.has_vector

values-more : (xs : List Candidate) (v : List ℤ) (a : ℕ) (vs : List ℤ) (m : ℕ) → length xs ≡ m → length (values_of xs) ≡ length xs * 4
    → values_put (values_left xs vs) m (padded v) ≡ values_left (xs ++ (record { vector = padded v; model = a } ∷ [])) vs
values-more xs v a vs m e f =
    let x : Candidate = record { vector = padded v; model = a } in
    let w = values_of xs in
    let ys = drop (length xs * 4) vs in
    let start : m * 4 ≡ length w = omega (arith, e, f) in
    let next : length xs * 4 + 4 ≡ length (xs ++ (x ∷ [])) * 4 = omega (arith, length-snoc xs x) in
    ap₂ (λ (p q : List ℤ). p ++ (padded v ++ q)) (ap (λ (k : ℕ). take k (w ++ ys)) start ∙ take-append_seam w ys)
    (ap (λ (k : ℕ). drop (k + 4) (w ++ ys)) start ∙ drop-append-add w ys 4 ∙ drop-drop 4 (length xs * 4) vs ∙ ap (λ (k : ℕ). drop k vs) next)
    ∙ sym (append_assoc w (padded v) (drop (length (xs ++ (x ∷ [])) * 4) vs))
    ∙ ap (λ (p : List ℤ). p ++ drop (length (xs ++ (x ∷ [])) * 4) vs) (sym (values-snoc xs x))

models-more : (xs : List Candidate) (x : Candidate) (ms : List ℕ) (m : ℕ) → length xs ≡ m → m < length ms → set (models_left xs ms) m x.model ≡ models_left (xs ++ (x ∷ [])) ms
models-more xs x ms m e h =
    ap (λ (l : List ℕ). set (models_of xs ++ l) m x.model) (drop-cons ms (length xs) 0 (omega arith))
    ∙ set_at (models_of xs) (get_or ms (length xs) 0) (drop (suc (length xs)) ms) x.model m (length-map xs (λ c. c.model) ∙ e)
    ∙ sym (append_assoc (models_of xs) (x.model ∷ []) (drop (suc (length xs)) ms))
    ∙ ap₂ (λ (p q : List ℕ). p ++ q) (sym (models-snoc xs x)) (ap (λ (k : ℕ). drop k ms) (sym (length-snoc xs x ∙ add-one (length xs))))

-- ---- trades: one more

pub record Added (listed listed' : List (Trade 4)) (trade : Trade 4) : Type 0 where
  pub many : length listed' ≡ length listed + 1
  pub old : (q : ℕ) → q < length listed → get_or listed' q no_trade ≡ get_or listed q no_trade
  pub new : get_or listed' (length listed) no_trade ≡ trade

pub added : (listed : List (Trade 4)) (m : ℕ) (trade : Trade 4) → m < length listed → Added (take m listed) (take (m + 1) (set listed m trade)) trade
added listed m trade h = record { many = omega (arith, first, more, length-set listed m trade); old = λ q l. old q (omega (arith, first)); new = ap (λ (k : ℕ). get_or after k no_trade) first ∙ here }
  where
    after : List (Trade 4)
    after = take (m + 1) (set listed m trade)

    first : length (take m listed) ≡ m
    first = length-take-le m listed (omega arith)

    more : length after ≡ m + 1
    more = length-take-le (m + 1) (set listed m trade) (omega (arith, length-set listed m trade))

    old : (q : ℕ) → q < m → get_or after q no_trade ≡ get_or (take m listed) q no_trade
    old q l =
        get_or-take (m + 1) (set listed m trade) q no_trade (omega arith) ∙ get_or-set_other listed m q trade no_trade (λ e. omega arith)
        ∙ sym (get_or-take m listed q no_trade l)

    here : get_or after m no_trade ≡ trade
    here = get_or-take (m + 1) (set listed m trade) m no_trade (omega arith) ∙ get_or-set_same listed m trade no_trade h

-- ---- Listing

module _ {ts rs : List ℤ} {problem : Problem 4} (nm : InOrder ts rs problem.count problem.rows problem.costs.now)
    {vs : List ℤ} {ms : List ℕ} {m : ℕ} {vs' : List ℤ} {ms' : List ℕ} {listed : List (Trade 4)} (l : Listing ts rs problem vs ms m vs' ms' listed) where
  abbrev I : Instance
  I = meaning ts rs

  listed-length : length (values_of l.xs) ≡ length l.xs * 4
  listed-length = values_length l.xs (λ x u. candidate-four x (l.begins.members x u))

  -- One point more: the next trade of the search, its values and its model stored.
  module _ {trade : Trade 4} {listed' : List (Trade 4)} (x : IsNext problem listed trade) (p : Added listed listed' trade) where
    abbrev more : List Candidate
    more = l.xs ++ (candidate I trade.model ∷ [])

    model-old : (q : ℕ) → q < m → get_or (models_of more) q 0 ≡ get_or (models_of l.xs) q 0
    model-old q h =
        ap (λ (r : List ℕ). get_or r q 0) (models-snoc l.xs (candidate I trade.model))
        ∙ get_or-append (models_of l.xs) (trade.model ∷ []) 0 q (omega (arith, length-map l.xs (λ c. c.model), l.count))

    model-new : get_or (models_of more) m 0 ≡ trade.model
    model-new =
        ap (λ (r : List ℕ). get_or r m 0) (models-snoc l.xs (candidate I trade.model))
        ∙ get_or_at (models_of l.xs) trade.model [] 0 m (length-map l.xs (λ c. c.model) ∙ l.count)

    costs-more : (q i : ℕ) → q < m + 1 → i < problem.count → row listed' q i ≡ vec problem (bit (get_or (models_of more) q 0)) i
    costs-more q i h j = by (dec_lt q m)
      where
        by : Dec (q < m) → row listed' q i ≡ vec problem (bit (get_or (models_of more) q 0)) i
        by (yes u) =
            ap (λ (t : Trade 4). at t.costs i) (p.old q (omega (arith, l.trades))) ∙ l.costs_are q i u j
            ∙ ap (λ (b : ℕ). vec problem (bit b) i) (sym (model-old q u))
        by (no u) =
            ap (λ (r : ℕ). row listed' r i) here ∙ ap (λ (t : Trade 4). at t.costs i) p.new ∙ sym (x.value i j)
            ∙ ap (λ (b : ℕ). vec problem (bit b) i) (sym (ap (λ (r : ℕ). get_or (models_of more) r 0) (here ∙ l.trades) ∙ model-new))
          where
            here : q ≡ length listed
            here = omega (arith, l.trades)

    pub listing-more : {vs'' : List ℤ} {ms'' : List ℕ} → m < length ms → vs'' ≡ values_put vs' m (padded (vector I trade.model)) → ms'' ≡ set ms' m trade.model
        → Listing ts rs problem vs ms (m + 1) vs'' ms'' listed'
    listing-more i e f =
        record {
          xs = more;
          begins = begins-more 4 candidate-four l.xs (candidate I trade.model) l.begins (comes-next nm l x);
          count = length-snoc l.xs (candidate I trade.model) ∙ ap (λ (q : ℕ). q + 1) l.count;
          trades = p.many ∙ ap (λ (q : ℕ). q + 1) l.trades;
          values = e ∙ ap (λ (r : List ℤ). values_put r m (padded (vector I trade.model))) l.values ∙ values-more l.xs (vector I trade.model) trade.model vs m l.count listed-length;
          models = f ∙ ap (λ (r : List ℕ). set r m trade.model) l.models ∙ models-more l.xs (candidate I trade.model) ms m l.count i;
          costs_are = costs-more;
        }

  -- ---- the end
  -- No candidate is fresh: the list is the front.
  pub lists-all : (r : ℕ) → Ended problem listed → m ≤ r → Lists ts rs r vs ms vs' ms' (Some m)
  lists-all r x h =
      record {
        front = l.xs;
        is_front = begins-all l.xs l.begins (none-fresh nm l x);
        whole = λ k e. let z : m ≡ k = cc in (omega (arith, z, l.count), omega (arith, l.count));
        part = λ e. cc;
        values = l.values ∙ ap (λ (xs : List Candidate). values_left xs vs) (sym all);
        models = l.models ∙ ap (λ (xs : List Candidate). models_left xs ms) (sym all);
      }
    where
      all : take r l.xs ≡ l.xs
      all = take_all r l.xs (omega (arith, l.count))

  -- There is one more, and no room for it: the front goes on after the list.
  pub lists-part : {trade : Trade 4} → IsNext problem listed trade → Lists ts rs m vs ms vs' ms' None
  lists-part {trade} x =
      record {
        front = front_of I;
        is_front = front-of I;
        whole = λ k e. cc;
        part = λ e. omega (arith, begins-short smaller-order l.begins (front-of I) (candidate I trade.model) (comes-next nm l x).member (comes-next nm l x).fresh, l.count);
        values = l.values ∙ ap (λ (xs : List Candidate). values_left xs vs) (sym first);
        models = l.models ∙ ap (λ (xs : List Candidate). models_left xs ms) (sym first);
      }
    where
      first : take m (front_of I) ≡ l.xs
      first = ap (λ (q : ℕ). take q (front_of I)) (sym l.count) ∙ begins-front smaller-order l.begins (front-of I)

-- ---- what the search answered

module _ {problem : Problem 4} {listed : List (Trade 4)} {next : Option (Trade 4)} (x : Next problem listed next) where
  pub next-is : {trade : Trade 4} → next ≡ Some trade → IsNext problem listed trade
  next-is e = subst (Next problem listed) e x

  pub next-not : next ≡ None → Ended problem listed
  next-not e = subst (Next problem listed) e x
