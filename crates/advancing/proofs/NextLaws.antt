-- The chosen trade is the next: were something fit before its vector, no gathered trade would dominate that (it would come before the least), so it
-- would not come before the limit; but the chosen trade is not after the limit. The smallest assignment within the chosen vector is not dominated
-- either, since what dominates its vector dominates the vector above it; so its vector does not come before the least one, and being within it, is
-- equal to it. Taking out a trade that a listed one dominates loses nothing: what it dominated is not fresh.
use mathlib.Core.Path.{◌≡◌, refl, ap, sym, subst, ◌∙◌}
use mathlib.Core.Logic.{⊎_elim, inl, inr}
use mathlib.Core.List.{List}
use Prim.Native.Nat.{ℕ, zero, suc, ◌+◌, ◌≤◌, ◌<◌}
use native.Mathlib.Nat.{not-suc-le-zero}
use native.Mathlib.Omega.{arith}
use lib.ListN.{length, get_or, set}
use mathlib.Core.Bool.{false}
use Rattle.std.specs.Option.{is_some}
use Rattle.std.specs.Prelude.{Option, Some, None}
use Rattle.charging.specs.declared.parts.Part.{Part}
use Rattle.charging.specs.Rows.{bit, of, Completes}
use Rattle.charging.proofs.SumLaws.{eq-or, lt-or}
use Rattle.charging.proofs.BitLaws.{bit-two}
use Rattle.capping.specs.declared.trades.Trade.{Trade}
use Rattle.capping.specs.declared.problems.Problem.{Problem}
use Rattle.capping.specs.Caps.{vec, less, at, row, no_trade, Within, Fresh}
use Rattle.capping.proofs.OrderLaws.{lex-up, lex-mono}
use Rattle.seeking.specs.declared.stocks.Stock.{Stock}
use Rattle.seeking.specs.Stocks.{Among, Least}
use Rattle.seeking.specs.Gathers.{Fit, Known, Found, Gathers}
use Rattle.seeking.proofs.StockLaws.{lex-through, fresh-down, free-old, free_new, set-cases}
use Rattle.lowering.specs.Smallest.{Smallest}
use Rattle.advancing.specs.Next.{AtMost, IsNext, Ended}
use Rattle.advancing.specs.Stocked.{Stocked, Sifted, Pick, Chosen, Ready}

-- ---- less

-- within g and not before it, by the places from j on: equal
less-tie : (m j : ℕ) (f g : ℕ → ℕ) → ((i : ℕ) → i < j + m → f i ≤ g i) → (less m j f g → ⊥) → (i : ℕ) → j ≤ i → i < j + m → f i ≡ g i
unfolding less
less-tie zero j f g u h i l r = absurd (omega arith)
less-tie (suc m) j f g u h i l r =
    let e : f j ≡ g j = ⊎_elim (λ z. absurd (h (inl z))) (λ z. omega (arith, z, u j (omega arith))) (lt-or (f j) (g j)) in
    ⊎_elim (λ z. ap f z ∙ e ∙ ap g (sym z))
    (λ z. less-tie m (j + 1) f g (λ y q. u y (omega arith)) (λ q. h (inr (e, q))) i (omega (arith, z)) (omega arith)) (eq-or i j)

-- with nothing set, every assignment completes
blank-completes : (n : ℕ) (p : Part) → ((v : ℕ) → of p v ≡ 2) → (a : ℕ) → Completes n (of p) (bit a)
blank-completes n p u a = record { bits = λ v l. bit-two a v; agrees = λ v l e. absurd (e (u v)) }

pub none-of : (o : Option (List ℕ)) → is_some o ≡ false → o ≡ None
none-of None e = refl
none-of (Some x) e = cc

-- the smallest of what is wanted, in other words
pub smallest-same : (n : ℕ) (W U : (ℕ → ℕ) → Type 0) (a : ℕ) → ((x : ℕ → ℕ) → W x → U x) → ((x : ℕ → ℕ) → U x → W x) → Smallest n W a → Smallest n U a
smallest-same n W U a f g s = record { wanted = f (bit a) s.wanted; fits = s.fits; least = λ x l u. s.least x l (g (bit x) u) }

-- ---- Sifted

module _ {K : ℕ} (k : ℕ) (listed points₀ : List (Trade K)) (c₀ : ℕ) where
  -- the last of c + 1 trades goes to the place of one that is not fresh
  pub sifted-drop : (points : List (Trade K)) (c j : ℕ) (x y : Trade K) → x ≡ get_or points j no_trade → y ≡ get_or points c no_trade
      → Sifted k listed points₀ c₀ points (c + 1) → j < c + 1 → j < length points → (Fresh k listed (length listed) (at x.costs) → ⊥)
      → Sifted k listed points₀ c₀ (set points j y) c
  sifted-drop points c j x y here there s jl jp n =
      subst (λ (t : Trade K). Sifted k listed points₀ c₀ (set points j t) c) (sym there)
      (record {
        fewer = omega (arith, s.fewer);
        came = λ u z. set-cases k (get_or points c no_trade) points j jp (Among points₀ c₀) u (λ e. s.came c (omega arith)) (λ e. s.came u (omega arith));
        kept = λ h fr y. s.kept h fr (λ v z.
            ⊎_elim (λ e. subst (λ (q : ℕ). Within k (row points q) h → ⊥) (sym e) (λ b. stale (fresh-down k listed (length listed) (row points j) h b fr)))
            (λ e. ⊎_elim (λ q. free-old k (get_or points c no_trade) points j jp v e h (y v q))
            (λ q.
            let w : v ≡ c = omega (arith, z, q) in
            subst (λ (r : ℕ). Within k (row points r) h → ⊥) (sym w) (free_new k (get_or points c no_trade) points j jp h (y j (omega (arith, e, w)))))
            (lt-or v c)) (eq-or v j));
      })
    where
      stale : Fresh k listed (length listed) (row points j) → ⊥
      stale = subst (λ (t : Trade K). Fresh k listed (length listed) (at t.costs) → ⊥) here n

-- ---- Stocked

module _ {K : ℕ} (problem : Problem K) where
  -- nothing comes before 0: the stock to begin with
  pub stocked-empty : (listed points : List (Trade K)) (top : List ℕ) → ((i : ℕ) → i < problem.count → get_or top i 0 ≡ 0)
      → Stocked problem listed points (record { count = 0; limit = Some top })
  stocked-empty listed points top e =
      record {
        held = record { room = omega arith; each = λ j z. absurd (not-suc-le-zero z); limited = λ _ _ j z. absurd (not-suc-le-zero z) };
        all = λ x _ _. record { top = top; is = refl; behind = lex-up problem.count 0 problem.count (vec problem (bit x)) (at top) (omega arith) (λ i z. omega (arith, e i z)) };
      }

  -- a trade more is listed
  pub stocked-more : (listed listed' points : List (Trade K)) (stock : Stock K) → length listed ≤ length listed'
      → ((q : ℕ) → q < length listed → get_or listed' q no_trade ≡ get_or listed q no_trade)
      → Stocked problem listed points stock → Stocked problem listed' points stock
  stocked-more listed listed' points stock l e s =
      record {
        held = s.held;
        all = λ x u. s.all x (record {
          meets = u.meets;
          fresh = λ q z b. u.fresh q (omega arith) (subst (λ (t : Trade K). Within problem.count (at t.costs) (vec problem (bit x))) (sym (e q z)) b);
        });
      }

  module _ (listed : List (Trade K)) where
    pub stocked-sifted : (points : List (Trade K)) (stock : Stock K) (points' : List (Trade K)) (stock' : Stock K)
        → stock'.count ≤ length points' → stock'.limit ≡ stock.limit
        → Sifted problem.count listed points stock.count points' stock'.count → Stocked problem listed points stock → Stocked problem listed points' stock'
    stocked-sifted points stock points' stock' rm same f s =
        record {
          held = record {
            room = rm;
            each = λ u z. let a = f.came u z in subst (Known problem) (sym a.here) (s.held.each a.place a.inside);
            limited = λ top is u z y.
                let a = f.came u z in
                s.held.limited top (sym same ∙ is) a.place a.inside (subst (λ (t : Trade K). less problem.count 0 (at top) (at t.costs)) a.here y);
          };
          all = λ x u fr. let past = s.all x u (f.kept (vec problem (bit x)) u.fresh fr) in record { top = past.top; is = same ∙ past.is; behind = past.behind };
        }

    -- a trade is left, or none and there was no limit
    pub ready-left : (points : List (Trade K)) (stock : Stock K) (next : Option (Trade K)) → Stocked problem listed points stock
        → Chosen problem.count listed points stock.count next
        → (next ≡ None → stock.limit ≡ None) → Ready problem listed points stock next
    ready-left points stock next s h f =
        record {
          stocked = s;
          none = λ e x u.
              let z : stock.count ≡ 0 = rw (e, Chosen) at h in
              let past = s.all x u (λ q y. absurd (omega (arith, z, y))) in
              let no : ◌≡◌ {A = Option (List ℕ)} None (Some past.top) = sym (f e) ∙ past.is in cc;
          chosen = h;
        }

    module _ (p : Part) (blank : (v : ℕ) → of p v ≡ 2) (points₀ points : List (Trade K)) (stock : Stock K)
        (b : Gathers problem listed p points₀ (record { count = 0; limit = None }) points stock) where
      gathered : Stocked problem listed points stock
      gathered =
          record {
            held = record { room = b.held.room; each = λ j z. (b.held.each j z).known; limited = b.held.limited };
            all = λ x u. b.all (bit x) (blank-completes problem.rows.n p blank x) u;
          }

      pub ready-none : stock.count ≡ 0 → Ready problem listed points stock None
      ready-none z =
          record {
            stocked = gathered;
            none = λ _ x u. let past = gathered.all x u (λ q y. absurd (omega (arith, z, y))) in absurd (omega (arith, z, b.some (λ top e. cc) past.top past.is));
            chosen = z;
          }

      pub ready-some : (j : ℕ) (trade : Trade K) → trade ≡ get_or points j no_trade → j < stock.count → Least problem.count points stock.count j
          → Ready problem listed points stock (Some trade)
      ready-some j trade e z le =
          record {
            stocked = gathered;
            none = λ e. cc;
            chosen = record { place = j; inside = z; here = e; least = le; fresh = (subst (Found problem listed) (sym e) (b.held.each j z)).fresh };
          }

    -- ---- Next

    pub next-none : (points : List (Trade K)) (stock : Stock K) → Ready problem listed points stock None → Ended problem listed
    next-none points stock r x _ u = r.none refl x u

    module _ (points : List (Trade K)) (stock : Stock K) (trade : Trade K) (r : Ready problem listed points stock (Some trade)) where
      h : Pick problem.count listed points stock.count trade
      h = r.chosen

      known : Known problem trade
      known = subst (Known problem) (sym h.here) (r.stocked.held.each h.place h.inside)

      next-least : (x : ℕ) → Fit problem listed (bit x) → less problem.count 0 (vec problem (bit x)) (at trade.costs) → ⊥
      next-least x u y =
          let v = vec problem (bit x) in
          let z : less problem.count 0 v (row points h.place) = subst (λ (t : Trade K). less problem.count 0 v (at t.costs)) h.here y in
          let past = r.stocked.all x u (λ q i b. h.least q i (lex-mono problem.count 0 problem.count (row points q) v (row points h.place) (omega arith) b z)) in
          past.behind (lex-through problem.count 0 v (row points h.place) (at past.top) z (r.stocked.held.limited past.top past.is h.place h.inside))

      pub next-some : (a : ℕ) → Smallest problem.rows.n (AtMost problem trade.costs) a → IsNext problem listed (record { costs = trade.costs; model = a })
      next-some a s =
          record {
            fits = s.fits;
            fit = fit;
            value = λ i z. less-tie problem.count 0 (vec problem (bit a)) (at trade.costs) (λ y u. s.wanted.below y (omega arith)) (next-least a fit) i (omega arith) (omega arith);
            least = λ x _ u. next-least x u;
            first = λ x f y z. s.least x f (record { meets = y; below = λ i u. omega (arith, z i u) });
          }
        where
          fit : Fit problem listed (bit a)
          fit = record { meets = s.wanted.meets; fresh = λ q z b. h.fresh q z (λ i y. omega (arith, b i y, s.wanted.below i y)) }
