-- Keeping a trade loses nothing. Put over a trade that it weakly dominates, or in a new place, it dominates what that one did. Where there is no
-- room, the greatest of the gathered trades and it is left out and becomes the limit: what it dominates does not come before it, and the limit only
-- falls, since no gathered trade came after the old one.
use mathlib.Core.Path.{◌≡◌, refl, ap, sym, subst, ◌∙◌}
use mathlib.Core.Logic.{◌⊎◌, inl, inr, ⊎_elim}
use mathlib.Core.List.{List}
use Prim.Native.Nat.{ℕ, zero, suc, ◌+◌, ◌≤◌, ◌<◌}
use native.Mathlib.Nat.{not-suc-le-zero}
use native.Mathlib.Omega.{arith}
use lib.ListN.{length, get_or, set, take}
use lib.Seq.{get_or-set_same, get_or-set_other}
use borrow.Author.Count.{below_more}
use Rattle.std.specs.Prelude.{Some}
use Rattle.std.proofs.lemmas.List.{length-take-le, get_or-take}
use Rattle.charging.proofs.SumLaws.{eq-or, lt-or}
use Rattle.capping.specs.declared.trades.Trade.{Trade}
use Rattle.capping.specs.Caps.{less, at, row, no_trade, Within, Fresh, Before}
use Rattle.capping.proofs.OrderLaws.{lex-trans, lex-up}
use Rattle.seeking.specs.declared.stocks.Stock.{Stock}
use Rattle.seeking.specs.Stocks.{Limited, Among, Least, Greatest, Keeps}

-- ---- less

pub lex-self : (k : ℕ) (f : ℕ → ℕ) → less k 0 f f → ⊥
lex-self k f = lex-up k 0 k f f (omega arith) (λ i _. omega arith)

-- what comes before g comes before all that does not come before g
pub lex-through : (m j : ℕ) (f g h : ℕ → ℕ) → less m j f g → (less m j h g → ⊥) → less m j f h
unfolding less
lex-through zero j f g h a n = a
lex-through (suc m) j f g h a n =
    ⊎_elim (λ z. absurd (n (inl z)))
    (λ z. ⊎_elim (λ x. inl (omega (arith, x, z)))
    (λ x. ⊎_elim (λ e. inr (x.0 ∙ sym e, lex-through m (j + 1) f g h x.1 (λ y. n (inr (e, y))))) (λ e. inl (omega (arith, x.0, z, e))) (eq-or (h j) (g j))) a)
    (lt-or (h j) (g j))

-- ---- Fresh: decided

within-or : (k : ℕ) (f h : ℕ → ℕ) → Within k f h ⊎ (Within k f h → ⊥)
within-or zero f h = inl (λ i l. absurd (not-suc-le-zero l))
within-or (suc k) f h =
    ⊎_elim (λ y. ⊎_elim (λ z. inr (λ u. omega (arith, z, u k (omega arith)))) (λ z. inl (λ i l. below_more (λ (v : ℕ). f v ≤ h v) k y z i (omega arith))) (lt-or (h k) (f k)))
    (λ y. inr (λ u. y (λ i l. u i (omega arith)))) (within-or k f h)

pub fresh-or : {K : ℕ} (k : ℕ) (points : List (Trade K)) (c : ℕ) (f : ℕ → ℕ) → Fresh k points c f ⊎ (Fresh k points c f → ⊥)
fresh-or k points zero f = inl (λ q l. absurd (not-suc-le-zero l))
fresh-or k points (suc c) f =
    ⊎_elim (λ y. ⊎_elim (λ z. inr (λ u. u c (omega arith) z)) (λ z. inl (λ q l. below_more (λ (v : ℕ). Within k (row points v) f → ⊥) c y z q (omega arith)))
    (within-or k (row points c) f))
    (λ y. inr (λ u. y (λ q l. u q (omega arith)))) (fresh-or k points c f)

-- what dominates f dominates what f is at most
pub fresh-down : {K : ℕ} (k : ℕ) (points : List (Trade K)) (c : ℕ) (f h : ℕ → ℕ) → Within k f h → Fresh k points c h → Fresh k points c f
fresh-down k points c f h b fr q l u = fr q l (λ i z. omega (arith, u i z, b i z))

-- ---- The first c trades as a run of their own

module _ {K : ℕ} (points : List (Trade K)) (c : ℕ) (l : c ≤ length points) where
  pub front_length : length (take c points) ≡ c
  front_length = length-take-le c points l

  pub front-at : (q : ℕ) → q < c → get_or (take c points) q no_trade ≡ get_or points q no_trade
  front-at q i = get_or-take c points q no_trade i

  front-row : (P : (ℕ → ℕ) → Type 0) (q : ℕ) → q < c → P (row (take c points) q) → P (row points q)
  front-row P q i = subst (λ (t : Trade K). P (at t.costs)) (front-at q i)

  back-row : (P : (ℕ → ℕ) → Type 0) (q : ℕ) → q < c → P (row points q) → P (row (take c points) q)
  back-row P q i = subst (λ (t : Trade K). P (at t.costs)) (sym (front-at q i))

  pub fresh-back : (k : ℕ) (f : ℕ → ℕ) → Fresh k points c f → Fresh k (take c points) (length (take c points)) f
  fresh-back k f fr q i w = let z : q < c = omega (arith, front_length) in fr q z (front-row (λ (g : ℕ → ℕ). Within k g f) q z w)

  pub least-front : (k j : ℕ) → j < c → Least k (take c points) (length (take c points)) j → Least k points c j
  least-front k j z o u i y =
      o u (omega (arith, front_length)) (back-row (λ (g : ℕ → ℕ). less k 0 g (row (take c points) j)) u i (back-row (λ (g : ℕ → ℕ). less k 0 (row points u) g) j z y))

  pub greatest-front : (k j : ℕ) → j < c → Greatest k (take c points) (length (take c points)) j → Greatest k points c j
  greatest-front k j z o u i y =
      o u (omega (arith, front_length)) (back-row (λ (g : ℕ → ℕ). less k 0 g (row (take c points) u)) j z (back-row (λ (g : ℕ → ℕ). less k 0 (row points j) g) u i y))

  pub worse-front : (k j : ℕ) (f : ℕ → ℕ) → j < length (take c points) → Within k f (row (take c points) j) → (j < c) × Within k f (row points j)
  worse-front k j f i w = let z : j < c = omega (arith, front_length) in (z, front-row (λ (g : ℕ → ℕ). Within k f g) j z w)

-- ---- Least and Greatest, one trade more

module _ {K : ℕ} (k : ℕ) (points : List (Trade K)) (j b : ℕ) (x y : Trade K)
    (here : x ≡ get_or points j no_trade) (there : y ≡ get_or points b no_trade) where
  rows : (P : (ℕ → ℕ) → (ℕ → ℕ) → Type 0) → P (at x.costs) (at y.costs) → P (row points j) (row points b)
  rows P h = subst (λ (t : Trade K). P (row points j) (at t.costs)) there (subst (λ (t : Trade K). P (at t.costs) (at y.costs)) here h)

  pub least-new : Least k points j b → less k 0 (at x.costs) (at y.costs) → Least k points (j + 1) j
  least-new o z =
      let r = rows (less k 0) z in
      below_more (λ (u : ℕ). less k 0 (row points u) (row points j) → ⊥) j
      (λ u l y. o u l (lex-trans k 0 (row points u) (row points j) (row points b) y r)) (lex-self k (row points j))

  pub least-old : Least k points j b → (less k 0 (at x.costs) (at y.costs) → ⊥) → Least k points (j + 1) b
  least-old o n = below_more (λ (u : ℕ). less k 0 (row points u) (row points b) → ⊥) j o (rows (λ (f h : ℕ → ℕ). less k 0 f h → ⊥) n)

  pub greatest-new : Greatest k points j b → less k 0 (at y.costs) (at x.costs) → Greatest k points (j + 1) j
  greatest-new o z =
      let r = rows (λ (f h : ℕ → ℕ). less k 0 h f) z in
      below_more (λ (u : ℕ). less k 0 (row points j) (row points u) → ⊥) j
      (λ u l y. o u l (lex-trans k 0 (row points b) (row points j) (row points u) r y)) (lex-self k (row points j))

  pub greatest-old : Greatest k points j b → (less k 0 (at y.costs) (at x.costs) → ⊥) → Greatest k points (j + 1) b
  greatest-old o n = below_more (λ (u : ℕ). less k 0 (row points b) (row points u) → ⊥) j o (rows (λ (f h : ℕ → ℕ). less k 0 h f → ⊥) n)

-- ---- A trade set at place j

module _ {K : ℕ} (k : ℕ) (trade : Trade K) (points : List (Trade K)) (j : ℕ) (l : j < length points) where
  set-here : get_or (set points j trade) j no_trade ≡ trade
  set-here = get_or-set_same points j trade no_trade l

  set-other : (u : ℕ) → (u ≡ j → ⊥) → get_or (set points j trade) u no_trade ≡ get_or points u no_trade
  set-other u e = get_or-set_other points j u trade no_trade e

  pub free-old : (u : ℕ) → (u ≡ j → ⊥) → (h : ℕ → ℕ) → (Within k (row (set points j trade) u) h → ⊥) → Within k (row points u) h → ⊥
  free-old u e h fr b = fr (subst (λ (t : Trade K). Within k (at t.costs) h) (sym (set-other u e)) b)

  pub free_new : (h : ℕ → ℕ) → (Within k (row (set points j trade) j) h → ⊥) → Within k (at trade.costs) h → ⊥
  free_new h fr b = fr (subst (λ (t : Trade K). Within k (at t.costs) h) (sym set-here) b)

  -- what is at a place after is the trade, or was there before
  pub set-cases : (P : Trade K → Type 0) (u : ℕ) → (u ≡ j → P trade) → ((u ≡ j → ⊥) → P (get_or points u no_trade))
      → P (get_or (set points j trade) u no_trade)
  set-cases P u a b =
      ⊎_elim (λ e. subst P (sym (ap (λ (v : ℕ). get_or (set points j trade) v no_trade) e ∙ set-here)) (a e)) (λ e. subst P (sym (set-other u e)) (b e)) (eq-or u j)

  came : (c c' : ℕ) → ((u : ℕ) → u < c' → (u ≡ j → ⊥) → u < c) → (u : ℕ) → u < c'
      → (get_or (set points j trade) u no_trade ≡ trade) ⊎ Among points c (get_or (set points j trade) u no_trade)
  came c c' in' u z =
      set-cases (λ (t : Trade K). (t ≡ trade) ⊎ Among points c t) u (λ e. inl refl) (λ e. inr (record { place = u; inside = in' u z e; here = refl }))

  -- over a trade that it weakly dominates, or in a new place
  pub keeps_placed : (stock stock' : Stock K) → stock'.limit ≡ stock.limit → stock'.count ≤ length (set points j trade) → stock.count ≤ stock'.count
      → j < stock'.count
      → ((u : ℕ) → u < stock'.count → (u ≡ j → ⊥) → u < stock.count) → (j < stock.count → Within k (at trade.costs) (row points j))
      → Limited k points stock → Before k stock.limit (at trade.costs) → Keeps k trade points stock (set points j trade) stock'
  keeps_placed stock stock' same rm up jl in' wi lim bef =
      record {
        room = rm;
        came = came stock.count stock'.count in';
        limited = λ top is u z.
            let was : stock.limit ≡ Some top = sym same ∙ is in
            set-cases (λ (t : Trade K). less k 0 (at top) (at t.costs) → ⊥) u
            (λ e y. lex-self k (at top) (lex-trans k 0 (at top) (at trade.costs) (at top) y (bef top was)))
            (λ e y. lim top was u (in' u z e) y);
        some = λ s top is. omega (arith, s top (sym same ∙ is));
        new = λ h b fr. absurd (free_new h (fr j jl) b);
        kept = λ h acc fr.
            let past = acc (λ u z.
            ⊎_elim (λ e. subst (λ (v : ℕ). Within k (row points v) h → ⊥) (sym e) (λ b. free_new h (fr j jl) (λ i y. omega (arith, wi (omega (arith, z, e)) i y, b i y))))
            (λ e. free-old u e h (fr u (omega arith))) (eq-or u j)) in
            record { top = past.top; is = same ∙ past.is; behind = past.behind };
      }

  -- over the greatest trade, which becomes the limit
  pub keeps-last : (stock : Stock K) (top : List ℕ) → stock.count ≤ length (set points j trade) → j < stock.count → Greatest k points stock.count j
      → top ≡ (get_or points j no_trade).costs
      → less k 0 (at trade.costs) (at top) → Limited k points stock → Keeps k trade points stock (set points j trade) (record { count = stock.count; limit = Some top })
  keeps-last stock top rm jl gr e z lim =
      record {
        room = rm;
        came = came stock.count stock.count (λ u y _. y);
        limited = λ top' is u y.
            let same : top ≡ top' = cc in
            subst (λ (t : List ℕ). less k 0 (at t) (row (set points j trade) u) → ⊥) same
            (set-cases (λ (t : Trade K). less k 0 (at top) (at t.costs) → ⊥) u
            (λ q x. lex-self k (at top) (lex-trans k 0 (at top) (at trade.costs) (at top) x z))
            (λ q x. gr u y (subst (λ (t : List ℕ). less k 0 (at t) (row points u)) e x)));
        some = λ _ _ _. omega arith;
        new = λ h b fr. absurd (free_new h (fr j jl) b);
        kept = λ h acc fr.
            record {
              top = top;
              is = refl;
              behind = λ y.
                  let past = acc (old h fr y) in
                  past.behind (lex-through k 0 h (at top) (at past.top) y (λ q. lim past.top past.is j jl (subst (λ (t : List ℕ). less k 0 (at past.top) (at t)) e q)));
            };
      }
    where
      old : (h : ℕ → ℕ) → Fresh k (set points j trade) stock.count h → less k 0 h (at top) → Fresh k points stock.count h
      old h fr y u i =
          ⊎_elim (λ q. subst (λ (v : ℕ). Within k (row points v) h → ⊥) (sym q) (λ b. lex-up k 0 k h (at top) (omega arith) (subst (λ (t : List ℕ). Within k (at t) h) (sym e) b) y))
          (λ q. free-old u q h (fr u i)) (eq-or u j)

-- left out, as the limit
pub keeps-out : {K : ℕ} (k : ℕ) (trade : Trade K) (points : List (Trade K)) (stock : Stock K) (j : ℕ) → stock.count ≤ length points
    → j < stock.count → Greatest k points stock.count j
    → (top : List ℕ) → top ≡ (get_or points j no_trade).costs → (less k 0 (at trade.costs) (at top) → ⊥) → Before k stock.limit (at trade.costs)
    → Keeps k trade points stock points (record { count = stock.count; limit = Some trade.costs })
keeps-out k trade points stock j rm jl gr last e n bef =
    record {
      room = rm;
      came = λ u l. inr (record { place = u; inside = l; here = refl });
      limited = λ top is u l y.
          let same : trade.costs ≡ top = cc in
          n (lex-through k 0 (at trade.costs) (row points u) (at last) (subst (λ (t : List ℕ). less k 0 (at t) (row points u)) (sym same) y)
          (subst (λ (t : List ℕ). less k 0 (at t) (row points u) → ⊥) (sym e) (gr u l)));
      some = λ _ _ _. omega arith;
      new = λ h b fr. record { top = trade.costs; is = refl; behind = lex-up k 0 k h (at trade.costs) (omega arith) b };
      kept = λ h acc fr.
          record {
            top = trade.costs;
            is = refl;
            behind = λ y. let past = acc fr in past.behind (lex-trans k 0 h (at trade.costs) (at past.top) y (bef past.top past.is));
          };
    }
