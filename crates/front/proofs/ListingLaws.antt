-- The list so far: how the front begins. Its points stand in the runs and their trades in the scratch; the next trade of the search comes next.
-- Assumes nothing.
use mathlib.Core.Path.{◌≡◌, refl, sym, ap, ◌∙◌, subst}
use mathlib.Core.Logic.{◌⊎◌, inl, inr}
use mathlib.Core.List.Memᴰ
use mathlib.Core.List.{List, [], ◌∷◌, Memᴰ}
use Prim.Native.Nat.{ℕ, zero, suc, ◌^◌, ◌<◌}
use native.Mathlib.Omega.{arith}
use lib.IntN.{ℤ}
use lib.ListN.{length, get_or, take}
use Rattle.charging.specs.Rows.{bit}
use Rattle.capping.specs.declared.trades.Trade.{Trade}
use Rattle.capping.specs.declared.problems.Problem.{Problem}
use Rattle.capping.specs.Caps.{vec, at, row}
use Rattle.capping.specs.Caps.{Fresh as Unbeaten}
use Rattle.capping.proofs.OrderLaws.{lex-same}
use Rattle.seeking.specs.Gathers.{Fit}
use Rattle.advancing.specs.Next.{IsNext, Ended}
use Rattle.instance.specs.Meaning.{Instance, meaning, vector}
use Rattle.judge.specs.Judging.{padded}
use Rattle.normal.specs.Normal.{InOrder}
use Rattle.points.specs.Vectors.{LeAll, Lex}
use Rattle.points.specs.Fronts.{Candidate, Fresh, Begins, ComesNext}
use Rattle.points.proofs.BeginLaws.{begins-none}
use Rattle.front.specs.Listing.{CandidateOf, Smaller, values_of, models_of, values_left, models_left}
use Rattle.front.proofs.VectorLaws.{le-vectors, le-costs, same-costs, lex-costs}

-- the candidate of an assignment
abbrev pub candidate : Instance → ℕ → Candidate
candidate i a = record { vector = padded (vector i a); model = a }

-- ---- places of a list

pub record Place (xs : List Candidate) (x : Candidate) : Type 0 where
  pub place : ℕ
  pub inside : place < length xs
  pub model_is : get_or (models_of xs) place 0 ≡ x.model

place-of : (xs : List Candidate) (x : Candidate) → Memᴰ x xs → Place xs x
place-of [] x m = absurd (Memᴰ.not-nil m)
place-of (y ∷ ys) x m = by (place-of ys x) (Memᴰ.cases_cons m)
  where
    by : (Memᴰ x ys → Place ys x) → (x ≡ y) ⊎ Memᴰ x ys → Place (y ∷ ys) x
    by f (inl e) = record { place = 0; inside = omega arith; model_is = ap (λ (c : Candidate). c.model) (sym e) }
    by f (inr n) = let p = f n in record { place = suc p.place; inside = omega (arith, p.inside); model_is = p.model_is }

pub record Member (xs : List Candidate) (q : ℕ) : Type 0 where
  pub point : Candidate
  pub member : Memᴰ point xs
  pub model_is : get_or (models_of xs) q 0 ≡ point.model

member-at : (xs : List Candidate) (q : ℕ) → q < length xs → Member xs q
member-at [] q h = absurd (omega arith)
member-at (x ∷ xs) zero h = record { point = x; member = Memᴰ.head refl; model_is = refl }
member-at (x ∷ xs) (suc q) h = let m = member-at xs q (omega arith) in record { point = m.point; member = Memᴰ.tail m.member; model_is = m.model_is }

-- ---- Listing

-- m points are listed: xs, which is how the front begins; the runs hold them, the rest as found; their trades are known.
pub record Listing (ts rs : List ℤ) (problem : Problem 4) (vs : List ℤ) (ms : List ℕ) (m : ℕ)
    (vs' : List ℤ) (ms' : List ℕ) (listed : List (Trade 4)) : Type 0 where
  pub xs : List Candidate
  pub begins : Begins (CandidateOf (meaning ts rs)) Smaller xs
  pub count : length xs ≡ m
  pub trades : length listed ≡ m
  pub values : vs' ≡ values_left xs vs
  pub models : ms' ≡ models_left xs ms
  pub costs_are : (q i : ℕ) → q < m → i < problem.count → row listed q i ≡ vec problem (bit (get_or (models_of xs) q 0)) i

pub listing_none : (ts rs : List ℤ) (problem : Problem 4) (vs : List ℤ) (ms : List ℕ) (listed : List (Trade 4)) → length listed ≡ 0
    → Listing ts rs problem vs ms 0 vs ms listed
unfolding values_of
listing_none ts rs problem vs ms listed e =
    record { xs = []; begins = begins-none; count = refl; trades = e; values = refl; models = refl; costs_are = λ q i h l. absurd (omega arith) }

-- the same by another number of points
pub listing-as : {ts rs : List ℤ} {problem : Problem 4} {vs : List ℤ} {ms : List ℕ} {m r : ℕ} {vs' : List ℤ} {ms' : List ℕ} (trades : List (Trade 4))
    → m ≡ r → Listing ts rs problem vs ms m vs' ms' (take m trades) → Listing ts rs problem vs ms r vs' ms' (take r trades)
listing-as {ts} {rs} {problem} {vs} {ms} {m} {r} {vs'} {ms'} trades e l = subst (λ (k : ℕ). Listing ts rs problem vs ms k vs' ms' (take k trades)) e l

module _ {ts rs : List ℤ} {problem : Problem 4} (nm : InOrder ts rs problem.count problem.rows problem.costs.now)
    {vs : List ℤ} {ms : List ℕ} {m : ℕ} {vs' : List ℤ} {ms' : List ℕ} {listed : List (Trade 4)} (l : Listing ts rs problem vs ms m vs' ms' listed) where
  abbrev I : Instance
  I = meaning ts rs

  -- a listed point by its model
  listed-is : (x : Candidate) → Memᴰ x l.xs → x.vector ≡ padded (vector I x.model)
  listed-is x u = (l.begins.members x u).has_vector

  -- ---- fresh: in vectors and in costs
  fresh-down : (c : Candidate) → CandidateOf I c → Fresh l.xs c → Unbeaten problem.count listed (length listed) (vec problem (bit c.model))
  fresh-down c p f q h le =
      let z : q < m = omega (arith, l.trades) in
      let u = member-at l.xs q (omega (arith, l.count)) in
      let x = u.point in
      f x u.member
      (subst (λ (v : List ℤ). LeAll v c.vector) (sym (listed-is x u.member))
      (subst (λ (v : List ℤ). LeAll (padded (vector I x.model)) v) (sym p.has_vector)
      (le-vectors problem nm x.model c.model (λ i j. omega (arith, le i j, l.costs_are q i z j, ap (λ (a : ℕ). vec problem (bit a) i) u.model_is)))))

  fresh_up : (a : ℕ) → Unbeaten problem.count listed (length listed) (vec problem (bit a)) → Fresh l.xs (candidate I a)
  fresh_up a f x u le =
      let p = place-of l.xs x u in
      f p.place (omega (arith, p.inside, l.count, l.trades))
      (λ i j. omega (
        arith,
        le-costs problem nm x.model a (subst (λ (v : List ℤ). LeAll v (padded (vector I a))) (listed-is x u) le) i j,
        l.costs_are p.place i (omega (arith, p.inside, l.count)) j,
        ap (λ (b : ℕ). vec problem (bit b) i) p.model_is,
      ))

  -- a fresh candidate is fit for the search
  fit : (c : Candidate) → CandidateOf I c → Fresh l.xs c → Fit problem listed (bit c.model)
  fit c p f = record { meets = nm.rows_met c.model p.feasible.rows_hold; fresh = fresh-down c p f }

  bits : (c : Candidate) → CandidateOf I c → c.model < 2 ^ problem.rows.n
  bits c p = subst (λ (j : ℕ). c.model < 2 ^ j) (sym nm.variables) p.feasible.bits

  -- ---- the next trade of the search comes next
  module _ {trade : Trade 4} (x : IsNext problem listed trade) where
    pub next-bits : trade.model < 2 ^ I.variables
    next-bits = subst (λ (j : ℕ). trade.model < 2 ^ j) nm.variables x.fits

    pub comes-next : ComesNext (CandidateOf I) Smaller l.xs (candidate I trade.model)
    comes-next =
        let a = trade.model in
        record {
          member = record { feasible = record { bits = next-bits; rows_hold = nm.rows_hold a x.fit.meets }; has_vector = refl };
          fresh = fresh_up a x.fit.fresh;
          least = λ c p f h.
              x.least c.model (bits c p) (fit c p f)
              (lex-same problem.count 0 problem.count (vec problem (bit c.model)) (vec problem (bit c.model)) (vec problem (bit a)) (at trade.costs) (omega arith) (λ i j. refl) (λ i j. x.value i j)
              (lex-costs problem nm c.model a (subst (λ (v : List ℤ). Lex v (padded (vector I a))) p.has_vector h)));
          first = λ c p e b.
              absurd
              (omega (arith, b, x.first c.model (bits c p) (nm.rows_met c.model p.feasible.rows_hold) (λ i j. same-costs problem nm c.model a (sym p.has_vector ∙ e) i j ∙ x.value i j)));
        }

  -- where the search has none, no candidate is fresh
  pub none-fresh : Ended problem listed → (c : Candidate) → CandidateOf I c → Fresh l.xs c → ⊥
  none-fresh x c p f = x c.model (bits c p) (fit c p f)
