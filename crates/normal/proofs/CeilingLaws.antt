-- Half rows as objectives with a cap: what the terms of half rows withhold is the cost with the base, and with what they give it is their weight.
-- Assumes nothing.
use mathlib.Core.Path.{◌≡◌, refl, sym, ap, ◌∙◌, subst}
use mathlib.Core.Logic.{⊎_elim}
use mathlib.Core.List.{List}
use Prim.Native.Nat.{ℕ, zero, suc, ◌+◌, ◌-◌, ◌*◌, ◌≤◌, ◌<◌}
use native.Mathlib.Omega.{arith}
use lib.ListN.{length, get_or, set, length-set}
use lib.Seq.{get_or-set_same, get_or-set_other}
use borrow.Rule.Slice.PartMut.{put_mid}
use Rattle.charging.specs.declared.rows.Term.{Term}
use Rattle.charging.specs.declared.rows.Cost.{Cost as CostOf}
use Rattle.charging.specs.declared.rows.Rows.{Rows}
use Rattle.charging.specs.Rows.{no_term, Terms, hit, miss, span, term, variable, side, weight, given}
use Rattle.charging.specs.Meets.{count, need, terms_of}
use Rattle.charging.proofs.TableLaws.{part_length, part_at, row_terms}
use Rattle.charging.proofs.SumLaws.{sum_more, eq-or, hit-eq, hit-ne, miss-eq, miss-ne}
use Rattle.instance.specs.Limits.{max_coef, max_terms}
use Rattle.normal.specs.declared.costs.Sides.{Sides as SidesOf}
use Rattle.normal.specs.Costs.{side_of, base_of, Settled}
use Rattle.normal.specs.Ceilings.{withheld, Piled, Heaps, Heap, weights_in, Narrow, Ceiling, CeilingAll}
use Rattle.normal.proofs.CostLaws.{sides-none, added, sides-up, sides-hit}
use Rattle.normal.proofs.PricedLaws.{parts_more}
use Rattle.normal.proofs.SettleLaws.{settled-costs, cost-sides-of}

-- ---- the terms of a row

-- a row has no more terms than an instance gives
pub row-few : (rows : Rows) → Narrow rows → (h : ℕ) → h < count rows → length (terms_of rows h) ≤ max_terms + max_terms
row-few rows w h l = let e = part_length rows.terms.now _ _ (rows.table.rising h l) (rows.table.inside h l) in omega (arith, w.few, rows.table.inside h l)

-- and its terms are in range
pub row-fits : (rows : Rows) → Narrow rows → (h : ℕ) → h < count rows → {terms : List Term} → terms ≡ terms_of rows h
    → (k : ℕ) → k < length terms → (variable terms k < rows.n) × (side terms k < 2) × (weight terms k ≤ max_coef)
row-fits rows w h l {terms} e k i =
    let a = get_or rows.starts.now h 0 in
    let b = get_or rows.starts.now (h + 1) 0 in
    let t = subst (Terms rows.n) (sym e) (row_terms rows h l) in
    let long = ap length e ∙ part_length rows.terms.now a b (rows.table.rising h l) (rows.table.inside h l) in
    let at = ap (λ (ts : List Term). get_or ts k no_term) e ∙ part_at rows.terms.now a b k no_term (omega arith) in
    (t.vars k i, t.sides k i, subst (λ (u : Term). u.weight ≤ max_coef) (sym at) (w.small (a + k) (omega (arith, rows.table.inside h l))))

-- ---- Piled

pub pile-none : (n : ℕ) (terms : List Term) (sides : List SidesOf) → Piled n terms 0 sides sides
unfolding span
pile-none n terms sides = record { same = refl; sums = λ x b. omega arith; small = λ v b. omega arith }

-- one term more
pub pile-more : {n : ℕ} {terms : List Term} {k : ℕ} {sides₀ sides : List SidesOf} → Piled n terms k sides₀ sides
    → n ≤ length sides₀ → variable terms k < n → side terms k < 2 → weight terms k ≤ max_coef
    → Piled n terms (k + 1) sides₀ (added sides (variable terms k) (side terms k) (weight terms k))
pile-more {n} {terms} {k} {sides₀} {sides} p room lv lo lw = record {
  same = simp length-set p.same;
  sums = λ x b. omega (
    arith,
    sides-hit n sides (variable terms k) (side terms k) (weight terms k) lv lo (omega (arith, p.same)) x b,
    p.sums x b,
    sum_more (λ (j : ℕ). hit (x (variable terms j)) (side terms j) (weight terms j)) k,
  );
  small = λ v b. omega (arith, sides-up n sides (variable terms k) (side terms k) (weight terms k) lv lo (omega (arith, p.same)) v b, p.small v b, lw);
}

-- ---- Heaps

-- what is given and what is withheld are all
both : (terms : List Term) (x : ℕ → ℕ) (k : ℕ) → span (term terms x) 0 k + withheld terms x k ≡ weights_in terms k
unfolding span
both terms x zero = refl
both terms x (suc k) = omega (arith, both terms x k, one (x (variable terms (0 + k))) (side terms (0 + k)) (weight terms (0 + k)))
  where
    one : (p q m : ℕ) → miss p q m + hit p q m ≡ m
    one p q m = ⊎_elim (λ e. omega (arith, miss-eq p q m e, hit-eq p q m e)) (λ e. omega (arith, miss-ne p q m e, hit-ne p q m e)) (eq-or p q)

-- what a half row withholds where it is met is at most its weight less its need
pub heaps-row : (rows : Rows) (h : ℕ) → h < count rows → {terms : List Term} → terms ≡ terms_of rows h → {sides₀ sides : List SidesOf} {all r : ℕ} → Piled rows.n terms (length terms) sides₀ sides
    → all ≡ weights_in terms (length terms) → all ≤ length terms * max_coef → r ≡ all - need rows h → Heaps rows h sides₀ sides r
heaps-row rows h lh {terms} e p we wl re = record {
  same = p.same;
  bound = λ x b m. omega (arith, subst (λ (ts : List Term). need rows h ≤ given ts x) (sym e) (m h lh), both terms x (length terms), p.sums x b);
  small = λ v b. omega (arith, p.small v b, ap length e);
  low = omega (arith, ap length e);
}

-- ---- Heap

pub heap-none : (rows : Rows) (sides : List SidesOf) (most : ℕ) → ((v b : ℕ) → side_of sides v b ≡ 0) → Heap rows sides 0 most
heap-none rows sides most f = record { bound = λ x b m. omega (arith, sides-none rows.n sides x f); small = λ v b. omega (arith, f v b); low = omega arith }

pub heap_one : {rows : Rows} {h : ℕ} {sides₀ sides : List SidesOf} {r : ℕ} → ((v b : ℕ) → side_of sides₀ v b ≡ 0) → Heaps rows h sides₀ sides r → Heap rows sides r (length (terms_of rows h))
heap_one {rows} {h} {sides₀} f q = record { bound = λ x b m. omega (arith, sides-none rows.n sides₀ x f, q.bound x b m); small = λ v b. omega (arith, f v b, q.small v b); low = q.low }

pub heap-more : {rows : Rows} {h : ℕ} {sides₀ sides : List SidesOf} {slack r most most' : ℕ} → Heap rows sides₀ slack most
    → Heaps rows h sides₀ sides r → most + length (terms_of rows h) ≤ most' → Heap rows sides (slack + r) most'
heap-more p q e = record { bound = λ x b m. omega (arith, p.bound x b m, q.bound x b m); small = λ v b. omega (arith, p.small v b, q.small v b); low = omega (arith, p.low, q.low) }

-- ---- Ceiling

-- the cost with the base is what there is of the sides
pub ceiling-one : {rows : Rows} {sides : List SidesOf} {slack most cap n : ℕ} {costs : List CostOf} → Heap rows sides slack most → most ≤ max_terms + max_terms
    → n ≡ rows.n → Settled n sides costs → cap ≡ slack - base_of n sides → Ceiling rows costs cap
ceiling-one {rows} {sides} {slack} {most} {cap} {n} {costs} p few e s f =
    let t = subst (λ (m : ℕ). Settled m sides costs) e s in
    let g = f ∙ ap (λ (m : ℕ). slack - base_of m sides) e in
    record {
      are = settled-costs t (λ v b. omega (arith, p.small v b));
      bound = λ x b m. omega (arith, cost-sides-of t x b, p.bound x b m);
    }

-- ---- CeilingAll

-- one ceiling more
pub ceilings-more : {rows : Rows} {i cap : ℕ} {costs one : List CostOf} {caps : List ℕ} → CeilingAll rows i costs caps → Ceiling rows one cap → i * rows.n + rows.n ≤ length costs → i < length caps
    → CeilingAll rows (i + 1) (put_mid (i * rows.n) (i * rows.n + rows.n - i * rows.n) costs one) (set caps i cap)
ceilings-more {rows} {i} {cap} {costs} {one} {caps} p q l m = record {
  each = parts_more (λ j cs. Ceiling rows cs (get_or (set caps i cap) j 0)) rows.n costs one i l q.are.long
      (λ j h. subst (Ceiling rows _) (sym (get_or-set_other caps i j cap 0 (λ e. omega arith))) (p.each j h))
      (subst (Ceiling rows one) (sym (get_or-set_same caps i cap 0 m)) q);
}
