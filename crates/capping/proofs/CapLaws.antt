-- R3: what comes before the limit is at most it in the first place, and as long as the bound is equal to it, in the next.
-- R4: what no point weakly dominates is below each point in some place; where the bound is below a point in one place only, it is that one.
use mathlib.Core.Path.{◌≡◌, refl, sym, subst}
use mathlib.Core.Logic.{⊎_elim}
use mathlib.Core.List.{List}
use Prim.Native.Nat.{ℕ, ◌+◌, ◌-◌, ◌^◌, ◌≤◌, ◌<◌, min}
use native.Mathlib.Omega.{arith}
use lib.ListN.{length, get_or, set}
use lib.Seq.{get_or-set_same, get_or-set_other}
use Rattle.std.specs.Prelude.{Option, Some, None}
use Rattle.charging.specs.declared.parts.Part.{Part}
use Rattle.charging.specs.declared.rows.Cost.{Cost}
use Rattle.charging.specs.Rows.{hit, gap, dear, cost, Costs, costs_of}
use Rattle.charging.specs.Meets.{Meets}
use Rattle.charging.proofs.SumLaws.{eq-or, span-le, hit-le}
use Rattle.capping.specs.declared.trades.Trade.{Trade}
use Rattle.capping.specs.declared.problems.Problem.{Problem}
use Rattle.capping.specs.Caps.{less, at, no_trade, Above, Below, Within, Fresh, Before, Seeks, Tight, Capped, Low, vec}
use Rattle.capping.proofs.OrderLaws.{lex-le, lex-empty, lex-on}

-- capping place j at c
cap-at : (k : ℕ) (cap : List ℕ) (j c : ℕ) (f : ℕ → ℕ) → j < length cap → Below k cap f → f j ≤ c → Below k (set cap j c) f
cap-at k cap j c f l b h i z =
    ⊎_elim
    (λ e. subst (λ (u : ℕ). f u ≤ get_or (set cap j c) u 0) (sym e) (rw (get_or-set_same cap j c 0 l) h))
    (λ e. rw (get_or-set_other cap j i c 0 e) (b i z))
    (eq-or i j)

-- R3: `cap` holds so far, and what is left is to come before the limit from place j on
abbrev pub Ahead : ℕ → List ℕ → List ℕ → List ℕ → List ℕ → ℕ → Type 0
Ahead k lb top cap₀ cap j = (f : ℕ → ℕ) → Above k lb f → Below k cap₀ f → less k 0 f (at top) → (Below k cap f) × less (k - j) j f (at top)

module _ (k : ℕ) (lb top cap₀ cap : List ℕ) (j : ℕ) (old : Ahead k lb top cap₀ cap j) where
  pub ahead-cap : j < length cap → j < k → Ahead k lb top cap₀ (set cap j (min (get_or cap j 0) (get_or top j 0))) j
  ahead-cap l z f a b h =
      let o = old f a b h in
      let one = o.0 j z in
      let two = lex-le (k - j) j f (at top) o.1 in
      (cap-at k cap j (min (get_or cap j 0) (get_or top j 0)) f l o.0 (omega arith), o.1)

  pub ahead_more : j < k → get_or top j 0 ≤ get_or lb j 0 → Ahead k lb top cap₀ cap (j + 1)
  ahead_more z l f a b h =
      let o = old f a b h in
      let e : k - (j + 1) ≡ k - j - 1 = omega arith in
      (o.0, rw e (lex-on (k - j) j f (at top) o.1 (omega (arith, a j z))))

  pub ahead-off : j < k → get_or top j 0 < get_or lb j 0 → Tight k lb cap₀ (Before k (Some top)) None
  ahead-off z l f a b h = let o = old f a b (h top refl) in omega (arith, lex-le (k - j) j f (at top) o.1, a j z)

  pub ahead-end : k ≤ j → Tight k lb cap₀ (Before k (Some top)) None
  ahead-end z f a b h = let o = old f a b (h top refl) in let e : k - j ≡ 0 = omega arith in lex-empty j f (at top) (rw e at o.1)

  pub ahead-on : Tight k lb cap₀ (Before k (Some top)) (Some cap)
  ahead-on f a b h = (old f a b (h top refl)).0

-- R4: the one place below i where lb is below t, if there is one
abbrev pub Single : List ℕ → List ℕ → Option ℕ → ℕ → Type 0
Single lb t (Some u) i = (u < i) × (get_or lb u 0 < get_or t u 0) × ((v : ℕ) → v < i → (v ≡ u → ⊥) → get_or t v 0 ≤ get_or lb v 0)
Single lb t None i = (v : ℕ) → v < i → get_or t v 0 ≤ get_or lb v 0

module _ (k : ℕ) (lb : List ℕ) where
  -- more is asked, and what comes after is asked too
  pub tight-then : (cap cap' : List ℕ) (Q R S : (ℕ → ℕ) → Type 0) (r : Option (List ℕ)) → ((f : ℕ → ℕ) → S f → Q f × R f)
      → Tight k lb cap Q (Some cap') → Tight k lb cap' R r → Tight k lb cap S r
  tight-then cap cap' Q R S (Some _) g a b = λ f u v q. b f u (a f u v (g f q).0) (g f q).1
  tight-then cap cap' Q R S None g a b = λ f u v q. b f u (a f u v (g f q).0) (g f q).1

  pub tight-less : (cap : List ℕ) (Q R : (ℕ → ℕ) → Type 0) (r : Option (List ℕ)) → ((f : ℕ → ℕ) → R f → Q f) → Tight k lb cap Q r → Tight k lb cap R r
  tight-less cap Q R (Some _) g a = λ f u v q. a f u v (g f q)
  tight-less cap Q R None g a = λ f u v q. a f u v (g f q)

  pub tight-more : {K : ℕ} (cap cap' : List ℕ) (trades : List (Trade K)) (q : ℕ) (trade : Trade K) (r : Option (List ℕ))
      → trade ≡ get_or trades q no_trade → Tight k lb cap (Fresh k trades q) (Some cap')
      → Tight k lb cap' (λ (f : ℕ → ℕ). Within k (at trade.costs) f → ⊥) r → Tight k lb cap (Fresh k trades (q + 1)) r
  tight-more {K} cap cap' trades q trade r e =
      tight-then cap cap' (Fresh k trades q) (λ (f : ℕ → ℕ). Within k (at trade.costs) f → ⊥) (Fresh k trades (q + 1)) r
      (λ f h. (λ i z. h i (omega arith), subst (λ (t : Trade K). Within k (at t.costs) f → ⊥) (sym e) (h q (omega arith))))

  pub tight-off : {K : ℕ} (cap : List ℕ) (trades : List (Trade K)) (q m : ℕ) → q ≤ m → Tight k lb cap (Fresh k trades q) None
      → Tight k lb cap (Fresh k trades m) None
  tight-off cap trades q m z a = tight-less cap (Fresh k trades q) (Fresh k trades m) None (λ f h i y. h i (omega arith)) a

pub cost-le : (n : ℕ) (costs : List Cost) (x : ℕ → ℕ) → Costs n costs → n ≤ 64 → cost costs x ≤ 2 ^ 40
cost-le n costs x c l =
    let u = span-le (λ (v : ℕ). hit (x v) (dear costs v) (gap costs v)) (length costs) (2 ^ 34)
    (λ v z. omega (arith, hit-le (x v) (dear costs v) (gap costs v), c.small v (omega (arith, c.long)))) in
    omega (arith, c.long)

module _ {K : ℕ} (problem : Problem K) (p : Part) where
  -- no vector is above the caps that capping begins with
  pub capped-low : (lb cap : List ℕ) (Q : (ℕ → ℕ) → Type 0) (W : (ℕ → ℕ) → Type 0) (r : Option (List ℕ))
      → Low problem problem.count p lb → ((i : ℕ) → i < problem.count → get_or cap i 0 ≡ 2 ^ 40) → ((x : ℕ → ℕ) → W x → Meets problem.rows x × Q (vec problem x))
      → Tight problem.count lb cap Q r → Capped problem W p r
  capped-low lb cap Q W r o wide ask = cases r
    where
      high : (x : ℕ → ℕ) → Below problem.count cap (vec problem x)
      high x i l = omega (arith, wide i l, cost-le problem.rows.n (costs_of problem.rows.n problem.costs.now i) x (problem.priced.each i l) problem.rows.table.every.few)

      cases : (s : Option (List ℕ)) → Tight problem.count lb cap Q s → Capped problem W p s
      cases (Some c) t = λ x k w. t (vec problem x) (λ i l. o i l x k (ask x w).0) (high x) (ask x w).1
      cases None t = λ x k w. t (vec problem x) (λ i l. o i l x k (ask x w).0) (high x) (ask x w).1

  -- before the limit, then not dominated by what is listed, then by what is gathered
  module _ (listed gathered : List (Trade K)) (m : ℕ) (limit : Option (List ℕ)) (lb cap cap' : List ℕ)
      (o : Low problem problem.count p lb) (wide : (i : ℕ) → i < problem.count → get_or cap i 0 ≡ 2 ^ 40)
      (one : Tight problem.count lb cap (Before problem.count limit) (Some cap')) where
    abbrev Two : (ℕ → ℕ) → Type 0
    Two f = Before problem.count limit f × Fresh problem.count listed (length listed) f

    two : (r : Option (List ℕ)) → Tight problem.count lb cap' (Fresh problem.count listed (length listed)) r → Tight problem.count lb cap Two r
    two r = tight-then problem.count lb cap cap' (Before problem.count limit) (Fresh problem.count listed (length listed)) Two r (λ f h. h) one

    pub capped-listed : Tight problem.count lb cap' (Fresh problem.count listed (length listed)) None → Capped problem (Seeks problem listed gathered m limit) p None
    capped-listed t = capped-low lb cap Two (Seeks problem listed gathered m limit) None o wide (λ x u. (u.meets, (u.sought.before, u.sought.fresh))) (two None t)

    pub capped-gathered : (cap'' : List ℕ) (r : Option (List ℕ)) → Tight problem.count lb cap' (Fresh problem.count listed (length listed)) (Some cap'')
        → Tight problem.count lb cap'' (Fresh problem.count gathered m) r → Capped problem (Seeks problem listed gathered m limit) p r
    capped-gathered cap'' r t u =
        capped-low lb cap (λ (f : ℕ → ℕ). Two f × Fresh problem.count gathered m f) (Seeks problem listed gathered m limit) r o wide
        (λ x v. (v.meets, ((v.sought.before, v.sought.fresh), v.sought.new)))
        (tight-then problem.count lb cap cap'' Two (Fresh problem.count gathered m) (λ (f : ℕ → ℕ). Two f × Fresh problem.count gathered m f) r (λ f h. h) (two (Some cap'') t) u)
