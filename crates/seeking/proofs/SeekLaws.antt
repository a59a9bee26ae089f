-- What is fit is wanted (dominated by no gathered trade, and before the limit) or accounted for. So only what is wanted counts below a node: where
-- nothing is, the stock stays; else it is below one of the children, and what was accounted for stays so.
use mathlib.Core.Path.{◌≡◌, refl, subst, sym}
use mathlib.Core.Logic.{◌⊎◌, inl, inr, ⊎_elim}
use mathlib.Core.List.{List}
use Prim.Native.Nat.{ℕ, ◌-◌, ◌^◌, ◌≤◌, ◌<◌}
use native.Mathlib.Omega.{arith}
use lib.ListN.{length, get_or, take}
use Rattle.std.specs.Prelude.{Option, Some, None}
use Rattle.std.proofs.lemmas.List.{length-take, get_or-take}
use Rattle.charging.specs.declared.parts.Part.{Part}
use Rattle.charging.specs.Rows.{bit, of, Completes, costs_of}
use Rattle.charging.specs.Meets.{Meets}
use Rattle.charging.proofs.SumLaws.{eq-or}
use Rattle.charging.proofs.ChargeLaws.{reach-up}
use Rattle.narrowing.specs.Parts.{Put, Leads, Cuts, Hopeless}
use Rattle.narrowing.proofs.PartLaws.{cuts-then, cuts-less}
use Rattle.forcing.specs.declared.goals.Goal.{Goal}
use Rattle.forcing.specs.Goals.{Wanted}
use Rattle.forcing.proofs.ForceLaws.{cost-up}
use Rattle.finding.proofs.FindLaws.{other, child-keep, number-completes}
use Rattle.capping.specs.declared.trades.Trade.{Trade}
use Rattle.capping.specs.declared.problems.Problem.{Problem}
use Rattle.capping.specs.Caps.{vec, less, at, Below, Within, Fresh, Before, Seeks, Capped}
use Rattle.capping.proofs.OrderLaws.{lex-or, lex-mono}
use Rattle.seeking.specs.declared.stocks.Stock.{Stock}
use Rattle.seeking.specs.Stocks.{Same, Past, Accounted, Keeps}
use Rattle.seeking.specs.Gathers.{Fit, Found, Held, Gathers}
use Rattle.seeking.proofs.StockLaws.{fresh-or, fresh-down, fresh-back}

-- ---- What each rule of reduce may not lose

module _ {K : ℕ} (problem : Problem K) (listed gathered : List (Trade K)) (c : ℕ) (limit : Option (List ℕ)) (p q : Part)
    (a : Leads problem.rows.n (Seeks problem listed gathered c limit) p q) where
  abbrev W : (ℕ → ℕ) → Type 0
  W = Seeks problem listed gathered c limit

  pub want-rows : (r : Option Part) → Cuts problem.rows.n (Meets problem.rows) q r → Cuts problem.rows.n W p r
  want-rows r e = cuts-then problem.rows.n W p q r a (cuts-less problem.rows.n (Meets problem.rows) W q r (λ x _ u. u.meets) e)

  pub want-off : Capped problem W q None → Cuts problem.rows.n W p None
  want-off e = cuts-then problem.rows.n W p q None a e

  -- rows, and then ceilings, which are asked of all that meets the rows
  pub want-ceilings : (r : Part) (goal : Goal) (s : Option Part) → Leads problem.rows.n (Meets problem.rows) q r
      → ((x : ℕ → ℕ) → Meets problem.rows x → ((v : ℕ) → v < problem.rows.n → x v < 2) → Wanted goal x) → Cuts problem.rows.n (Wanted goal) r s → Cuts problem.rows.n W p s
  want-ceilings r goal s rows f e = cuts-then problem.rows.n W p r s (want-rows (Some r) rows) (cuts-less problem.rows.n (Wanted goal) W r s (λ x z u. f x u.meets z.bits) e)

  pub want-forces : (goal : Goal) (r : Option Part) → ((x : ℕ → ℕ) → Completes problem.rows.n (of q) x → W x → Wanted goal x)
      → Cuts problem.rows.n (Wanted goal) q r → Cuts problem.rows.n W p r
  want-forces goal r f e = cuts-then problem.rows.n W p q r a (cuts-less problem.rows.n (Wanted goal) W q r f e)

-- ---- Past: decided

past-or : (k : ℕ) (limit : Option (List ℕ)) (f : ℕ → ℕ) → Past k limit f ⊎ Before k limit f
past-or k None f = inr (λ top e. cc)
past-or k (Some t) f =
    ⊎_elim (λ y. inr (λ top e. let z : t ≡ top = cc in subst (λ (s : List ℕ). less k 0 f (at s)) z y)) (λ y. inl (record { top = t; is = refl; behind = y })) (lex-or k 0 f (at t))

-- ---- Gathers

module _ {K : ℕ} (problem : Problem K) (listed : List (Trade K)) where
  -- what is fit is wanted or accounted for
  want-or : (points : List (Trade K)) (stock : Stock K) (x : ℕ → ℕ) → Fit problem listed x
      → Seeks problem listed points stock.count stock.limit x ⊎ Accounted problem.count points stock (vec problem x)
  want-or points stock x f =
      ⊎_elim
      (λ fr. ⊎_elim (λ p. inr (λ _. p)) (λ b. inl (record { meets = f.meets; sought = record { before = b; fresh = f.fresh; new = fr } })) (past-or problem.count stock.limit (vec problem x)))
      (λ z. inr (λ fr. absurd (z fr))) (fresh-or problem.count points stock.count (vec problem x))

  module _ (p : Part) (points : List (Trade K)) (stock : Stock K) where
    -- the stock stays: there is nothing wanted
    pub gathers-stays : Held (Found problem listed) problem.count points stock → Hopeless problem.rows.n (Seeks problem listed points stock.count stock.limit) p
        → Gathers problem listed p points stock points stock
    gathers-stays h f = record { held = h; some = λ s. s; all = λ x z u. ⊎_elim (λ y. absurd (f x z y)) (λ y. y) (want-or points stock x u); kept = λ _ y. y }

    module _ (q : Part) (a : Leads problem.rows.n (Seeks problem listed points stock.count stock.limit) p q) where
      pub gathers-lead : (points' : List (Trade K)) (stock' : Stock K) → Gathers problem listed q points stock points' stock'
          → Gathers problem listed p points stock points' stock'
      gathers-lead points' stock' b =
          record {
            held = b.held;
            some = b.some;
            all = λ x z u. ⊎_elim (λ y. b.all x (a.narrows.keep x z y) u) (λ y. b.kept (vec problem x) y) (want-or points stock x u);
            kept = b.kept;
          }

      -- below a node: what is wanted is below its children
      pub gathers-two : (v b : ℕ) (q₀ q₁ : Part) (points₀ : List (Trade K)) (stock₀ : Stock K) (points₁ : List (Trade K)) (stock₁ : Stock K)
          → v < problem.rows.n → b < 2 → Put problem.rows.n q v b q₀ → Put problem.rows.n q v (1 - b) q₁
          → Gathers problem listed q₀ points stock points₀ stock₀ → Gathers problem listed q₁ points₀ stock₀ points₁ stock₁
          → Gathers problem listed p points stock points₁ stock₁
      gathers-two v b q₀ q₁ points₀ stock₀ points₁ stock₁ i two p₀ p₁ b₀ b₁ =
          record {
            held = b₁.held;
            some = λ s. b₁.some (b₀.some s);
            all = λ x z u.
                ⊎_elim
                (λ y. let r = a.narrows.keep x z y in
                ⊎_elim
                (λ e. b₁.kept (vec problem x) (b₀.all x (child-keep problem.rows.n (Fit problem listed) q v b q₀ p₀ i x r e) u))
                (λ e. b₁.all x (child-keep problem.rows.n (Fit problem listed) q v (1 - b) q₁ p₁ i x r (other (x v) b (r.bits v i) two e)) u)
                (eq-or (x v) b))
                (λ y. b₁.kept (vec problem x) (b₀.kept (vec problem x) y))
                (want-or points stock x u);
            kept = λ f y. b₁.kept f (b₀.kept f y);
          }

-- a complete part, whose vector is f
module _ {K : ℕ} (problem : Problem K) (listed : List (Trade K)) (q : Part) (points : List (Trade K)) (stock : Stock K)
    (held : Held (Found problem listed) problem.count points stock) where
  module _ (f : ℕ → ℕ) (o : Same problem.count f (vec problem (of q))) where
    under : (x : ℕ → ℕ) → Completes problem.rows.n (of q) x → Within problem.count f (vec problem x)
    under x z i j = omega (arith, o i j, cost-up problem.rows.n (of q) (costs_of problem.rows.n problem.costs.now i) (problem.priced.each i j) x z)

    pub leaf-stale : (Fresh problem.count listed (length listed) f → ⊥) → Gathers problem listed q points stock points stock
    leaf-stale r = gathers-stays problem listed q points stock held (λ x z u. r (fresh-down problem.count listed (length listed) f (vec problem x) (under x z) u.sought.fresh))

    pub leaf-had : (Fresh problem.count points stock.count f → ⊥) → Gathers problem listed q points stock points stock
    leaf-had r = gathers-stays problem listed q points stock held (λ x z u. r (fresh-down problem.count points stock.count f (vec problem x) (under x z) u.sought.new))

    pub leaf-past : (Before problem.count stock.limit f → ⊥) → Gathers problem listed q points stock points stock
    leaf-past r =
        gathers-stays problem listed q points stock held
        (λ x z u. r (λ top e. lex-mono problem.count 0 problem.count f (vec problem x) (at top) (omega arith) (under x z) (u.sought.before top e)))

  leaf-found : (costs : List ℕ) → Same problem.count (at costs) (vec problem (of q)) → q.one < 2 ^ problem.rows.n → Completes problem.rows.n (of q) (of q) → Meets problem.rows (of q)
      → Fresh problem.count listed (length listed) (at costs) → Found problem listed (record { costs = costs; model = q.one })
  leaf-found costs o fi z mt fr =
      let n = problem.rows.n in
      let y = number-completes n (of q) q z in
      record {
        known = record {
          fits = fi;
          meets = λ h u. omega (arith, reach-up problem.rows (bit q.one) (of q) y.1 h u, mt h u);
          value = λ i j.
              let cs = costs_of n problem.costs.now i in
              omega (arith, o i j, cost-up n (of q) cs (problem.priced.each i j) (bit q.one) y.0, cost-up n (bit q.one) cs (problem.priced.each i j) (of q) y.1);
        };
        fresh = fr;
      }

  pub leaf-kept : (costs : List ℕ) (points' : List (Trade K)) (stock' : Stock K) → Same problem.count (at costs) (vec problem (of q))
      → q.one < 2 ^ problem.rows.n → Completes problem.rows.n (of q) (of q) → Meets problem.rows (of q)
      → Fresh problem.count listed (length listed) (at costs)
      → Keeps problem.count (record { costs = costs; model = q.one }) points stock points' stock' → Gathers problem listed q points stock points' stock'
  leaf-kept costs points' stock' o fi z mt fr kp =
      record {
        held = record {
          room = kp.room;
          each = λ u y.
              ⊎_elim (λ e. subst (Found problem listed) (sym e) (leaf-found costs o fi z mt fr))
              (λ e. subst (Found problem listed) (sym e.here) (held.each e.place e.inside)) (kp.came u y);
          limited = kp.limited;
        };
        some = kp.some;
        all = λ x y u. kp.new (vec problem x) (under (at costs) o x y);
        kept = kp.kept;
      }

-- ---- reduce, over the gathered trades as a run of their own

pub seeks-back : {K : ℕ} (problem : Problem K) (listed points : List (Trade K)) (stock : Stock K) → stock.count ≤ length points → (x : ℕ → ℕ)
    → Seeks problem listed points stock.count stock.limit x
    → Seeks problem listed (take stock.count points) (length (take stock.count points)) stock.limit x
seeks-back problem listed points stock l x u =
    record {
      meets = u.meets;
      sought = record { before = u.sought.before; fresh = u.sought.fresh; new = fresh-back points stock.count l problem.count (vec problem x) u.sought.new };
    }

pub cuts-back : {K : ℕ} (problem : Problem K) (listed points : List (Trade K)) (stock : Stock K) (p : Part) (r : Option Part)
    → stock.count ≤ length points
    → Cuts problem.rows.n (Seeks problem listed (take stock.count points) (length (take stock.count points)) stock.limit) p r
    → Cuts problem.rows.n (Seeks problem listed points stock.count stock.limit) p r
cuts-back problem listed points stock p r l =
    cuts-less problem.rows.n (Seeks problem listed (take stock.count points) (length (take stock.count points)) stock.limit)
    (Seeks problem listed points stock.count stock.limit) p r (λ x _ u. seeks-back problem listed points stock l x u)

-- the caps of as many objectives as there are
pub below-front : (k : ℕ) (cap : List ℕ) (f : ℕ → ℕ) → Below k cap f → (i : ℕ) → i < length (take k cap) → f i ≤ get_or (take k cap) i 0
below-front k cap f b i l =
    let z : i < k = omega (arith, length-take k cap) in
    omega (arith, b i z, get_or-take k cap i 0 z)

pub front-below : (k : ℕ) (cap : List ℕ) (f : ℕ → ℕ) → k ≤ length cap → ((i : ℕ) → i < length (take k cap) → f i ≤ get_or (take k cap) i 0) → Below k cap f
front-below k cap f l b i z = omega (arith, b i (omega (arith, length-take k cap)), get_or-take k cap i 0 z)
