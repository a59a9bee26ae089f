-- R1: a term gives under a completion at most what it gives while its variable is unset, so the left side of a row can only fall.
-- R2: where the row cannot do without a term, a completion that meets it has the term's variable on the helping side.
-- R5: let the terms that need no charge give too little for the row. A completion that meets the row has some other term helping; its variable stands
-- on its dear side with something left to charge. Taking m off each such variable (m at most what is left at any of them) and adding m to the
-- bound keeps: bound + what is left on dear sides ≤ cost, for every completion that meets the rows.
use mathlib.Core.Path.{◌≡◌, sym, ◌∙◌, subst}
use mathlib.Core.Logic.{⊎_elim}
use mathlib.Core.List.{List}
use Prim.Native.Nat.{ℕ, ◌+◌, ◌^◌, ◌≤◌, ◌<◌}
use native.Mathlib.Nat.{le_refl, zero-add}
use native.Mathlib.Omega.{arith}
use lib.ListN.{length, get_or, set}
use lib.Seq.{get_or-set_same, get_or-set_other}
use Rattle.charging.specs.declared.rows.Term.{Term}
use Rattle.charging.specs.declared.rows.Cost.{Cost}
use Rattle.charging.specs.declared.rows.Rows.{Rows}
use Rattle.charging.specs.Rows.{span, hit, term, variable, side, weight, given, gap, dear, Terms, Completes, cost, rest, spare_at, Paid, Least, Costs, Owed}
use Rattle.charging.specs.Meets.{count, need, terms_of, left, Meets, Charged, Step}
use Rattle.charging.proofs.SumLaws.{sum-mono, sum-drop, sum-add, sum-some, one_of, eq-or, hit-eq, hit-ne, hit-le, miss-eq, miss-ne, miss-le, spare-free, spare-paid}
use Rattle.charging.proofs.TableLaws.{row_terms}

-- what a term gives under a completion is at most what it gives under val
module _ (n : ℕ) (terms : List Term) (t : Terms n terms) where
  term_up : (val : ℕ → ℕ) (x : ℕ → ℕ) → Completes n val x → (k : ℕ) → k < length terms → term terms x k ≤ term terms val k
  term_up val x c k l =
      ⊎_elim
      (λ e. let same : x (variable terms k) ≡ val (variable terms k) = c.agrees (variable terms k) (t.vars k l) (λ z. let s = t.sides k l in omega arith) in
      omega (arith, miss-eq (x (variable terms k)) (side terms k) (weight terms k) (same ∙ e)))
      (λ e. omega (arith, miss-ne (val (variable terms k)) (side terms k) (weight terms k) e, miss-le (x (variable terms k)) (side terms k) (weight terms k)))
      (eq-or (val (variable terms k)) (side terms k))

  given-up : (val : ℕ → ℕ) (x : ℕ → ℕ) → Completes n val x → given terms x ≤ given terms val
  given-up val x c = sum-mono (term terms x) (term terms val) (length terms) (term_up val x c)

  -- without the help of the term j
  given-less : (val : ℕ → ℕ) (x : ℕ → ℕ) → Completes n val x → (j : ℕ) → j < length terms → val (variable terms j) ≡ 2 → x (variable terms j) ≡ side terms j
      → given terms x + weight terms j ≤ given terms val
  given-less val x c j i u e =
      let now' : term terms val j ≡ weight terms j = miss-ne (val (variable terms j)) (side terms j) (weight terms j) (λ z. let s = t.sides j i in omega arith) in
      let then' : term terms x j ≡ 0 = miss-eq (x (variable terms j)) (side terms j) (weight terms j) e in
      sum-drop (term terms x) (term terms val) (length terms) j (weight terms j) (term_up val x c) i (omega arith)

  -- R5, one row: where what needs no charge is too little, some charged variable stands on its dear side
  charged-terms : (val : ℕ → ℕ) (costs : List Cost) (res res' : List ℕ) (m enough : ℕ) → Costs n costs
      → span (spare_at terms val costs res) 0 (length terms) < enough
      → ((v : ℕ) → v < n → get_or res' v 0 ≤ get_or res v 0)
      → ((k : ℕ) → k < length terms → (dear costs (variable terms k) ≡ side terms k → ⊥)
      → (get_or res (variable terms k) 0 ≡ 0 → ⊥) → get_or res' (variable terms k) 0 + m ≤ get_or res (variable terms k) 0)
      → (x : ℕ → ℕ) → Completes n val x → enough ≤ given terms x → rest res' costs x + m ≤ rest res costs x
  charged-terms val costs res res' m enough cs short down pay x c mt = sum-some (spare_at terms val costs res) (term terms x) (length terms) (omega arith) found
    where
      fall : (v : ℕ) → v < length costs → hit (x v) (dear costs v) (get_or res' v 0) ≤ hit (x v) (dear costs v) (get_or res v 0)
      fall v j =
          ⊎_elim
          (λ e. omega (arith, hit-eq (x v) (dear costs v) (get_or res' v 0) e, hit-eq (x v) (dear costs v) (get_or res v 0) e, down v (omega (arith, cs.long))))
          (λ e. omega (arith, hit-ne (x v) (dear costs v) (get_or res' v 0) e))
          (eq-or (x v) (dear costs v))

      found : (k : ℕ) → k < length terms → spare_at terms val costs res k < term terms x k → rest res' costs x + m ≤ rest res costs x
      found k j lt =
          sum-drop (λ (v : ℕ). hit (x v) (dear costs v) (get_or res' v 0)) (λ (v : ℕ). hit (x v) (dear costs v) (get_or res v 0)) (length costs) u m
          fall (omega (arith, cs.long)) gap'
        where
          u : ℕ
          u = variable terms k

          inn : u < n
          inn = t.vars k j

          on : x u ≡ side terms k → ⊥
          on e = omega (arith, miss-eq (x u) (side terms k) (weight terms k) e)

          can : val u ≡ side terms k → ⊥
          can e = on (c.agrees u inn (λ z. let s = t.sides k j in omega arith) ∙ e)

          helps : dear costs u ≡ side terms k → ⊥
          helps e = omega (arith, spare-free (val u) (side terms k) (dear costs u) (get_or res u 0) (weight terms k) can e, miss-le (x u) (side terms k) (weight terms k))

          owes : get_or res u 0 ≡ 0 → ⊥
          owes e = omega (arith, spare-paid (val u) (side terms k) (dear costs u) (get_or res u 0) (weight terms k) can helps e, miss-le (x u) (side terms k) (weight terms k))

          dearly : x u ≡ dear costs u
          dearly = omega (arith, c.bits u inn, cs.two u inn, t.sides k j, on, helps)

          gap' : hit (x u) (dear costs u) (get_or res' u 0) + m ≤ hit (x u) (dear costs u) (get_or res u 0)
          gap' = omega (arith, hit-eq (x u) (dear costs u) (get_or res' u 0) dearly, hit-eq (x u) (dear costs u) (get_or res u 0) dearly, pay k j helps owes)

module _ (rows : Rows) where
  -- R1: the left side of a completion is at most what val can reach
  pub reach-up : (val : ℕ → ℕ) (x : ℕ → ℕ) → Completes rows.n val x → (h : ℕ) → h < count rows → left rows x h ≤ left rows val h
  reach-up val x c h l = given-up rows.n (terms_of rows h) (row_terms rows h l) val x c

  pub hopeless : (val : ℕ → ℕ) (h : ℕ) → h < count rows → left rows val h < need rows h → (x : ℕ → ℕ) → Completes rows.n val x → Meets rows x → ⊥
  hopeless val h l r x c m = omega (arith, reach-up val x c h l, m h l)

  -- R2: where the row cannot do without the term j, no completion that meets the row has its variable at off
  pub forced : (val : ℕ → ℕ) (h j : ℕ) → h < count rows → j < length (terms_of rows h)
      → val (variable (terms_of rows h) j) ≡ 2 → left rows val h < need rows h + weight (terms_of rows h) j
      → (x : ℕ → ℕ) → Completes rows.n val x → Meets rows x → x (variable (terms_of rows h) j) ≡ side (terms_of rows h) j → ⊥
  forced val h j l i u r x c m e = omega (arith, given-less rows.n (terms_of rows h) (row_terms rows h l) val x c j i u e, m h l)

  pub step-one : (costs : List Cost) (val : ℕ → ℕ) (res res' : List ℕ) (h m : ℕ) → Costs rows.n costs → h < count rows
      → span (spare_at (terms_of rows h) val costs res) 0 (length (terms_of rows h)) < need rows h
      → m ≤ 2 ^ 34 → Least (terms_of rows h) costs res (length (terms_of rows h)) m
      → Paid rows.n (terms_of rows h) costs (length (terms_of rows h)) m res res' → Step rows costs val res res' m
  step-one costs val res res' h m cs l short lo min p =
      record {
        low = lo;
        falls = λ x c mt. charged-terms rows.n (terms_of rows h) (row_terms rows h l) val costs res res' m (need rows h) cs short p.down
            (λ k i e f. let a = p.each k i e in let b = min k i e f in omega arith) x c (mt h l);
      }

-- R5, at the start: what is sure, and what may still come
opening : (n : ℕ) (val : ℕ → ℕ) (costs : List Cost) (res : List ℕ) → Costs n costs → Owed (length costs) val costs res
    → (x : ℕ → ℕ) → Completes n val x → cost costs val + rest res costs x ≤ cost costs x
opening n val costs res cs o x c = sum-add _ _ _ (length costs) one
  where
    one : (v : ℕ) → v < length costs → hit (val v) (dear costs v) (gap costs v) + hit (x v) (dear costs v) (get_or res v 0) ≤ hit (x v) (dear costs v) (gap costs v)
    one v l =
        let i : v < n = omega (arith, cs.long) in
        ⊎_elim
        (λ e. let zero' : hit (val v) (dear costs v) (gap costs v) ≡ 0 = hit-ne (val v) (dear costs v) (gap costs v) (λ z. let s = cs.two v i in omega arith) in
        rw (zero', o.open' v l e, zero-add) (le_refl (hit (x v) (dear costs v) (gap costs v))))
        (λ e. let r = o.shut v l e in let a = c.agrees v i e in
        let z : hit (x v) (dear costs v) 0 ≤ 0 = hit-le (x v) (dear costs v) 0 in
        rw (r, a) (omega (arith, rw a at z)))
        (eq-or (val v) 2)

pub charge-none : (rows : Rows) (val : ℕ → ℕ) (costs : List Cost) (b : ℕ) (res : List ℕ)
    → Costs rows.n costs → Owed (length costs) val costs res → b ≡ cost costs val → Charged rows costs val b res
charge-none rows val costs b res cs e z = record { bound = λ x k m. let one = opening rows.n val costs res cs e x k in omega arith }

-- what is left at a variable on its dear side is part of the rest
pub rest-one : (res : List ℕ) (costs : List Cost) (x : ℕ → ℕ) (v : ℕ) → v < length costs → x v ≡ dear costs v → get_or res v 0 ≤ rest res costs x
rest-one res costs x v l e =
    let k = one_of (λ (u : ℕ). hit (x u) (dear costs u) (get_or res u 0)) (length costs) v l in
    omega (arith, hit-eq (x v) (dear costs v) (get_or res v 0) e)

-- ---- Owed

pub owed-first : (val : ℕ → ℕ) (costs : List Cost) (res : List ℕ) → Owed 0 val costs res
owed-first val costs res = record { open' = λ v l. omega arith; shut = λ v l. omega arith }

-- one variable more
pub owed-more : {j : ℕ} {val : ℕ → ℕ} {costs : List Cost} {res : List ℕ} {r : ℕ} → Owed j val costs res → j < length res
    → (val j ≡ 2 → r ≡ gap costs j) → ((val j ≡ 2 → ⊥) → r ≡ 0) → Owed (j + 1) val costs (set res j r)
owed-more {j} {val} {costs} {res} {r} old l f g = record {
  open' = λ v i. ⊎_elim
      (λ e. subst (λ (u : ℕ). val u ≡ 2 → get_or (set res j r) u 0 ≡ gap costs u) (sym e) (λ t. get_or-set_same res j r 0 l ∙ f t))
      (λ e t. get_or-set_other res j v r 0 e ∙ old.open' v (omega arith) t)
      (eq-or v j);
  shut = λ v i. ⊎_elim
      (λ e. subst (λ (u : ℕ). (val u ≡ 2 → ⊥) → get_or (set res j r) u 0 ≡ 0) (sym e) (λ t. get_or-set_same res j r 0 l ∙ g t))
      (λ e t. get_or-set_other res j v r 0 e ∙ old.shut v (omega arith) t)
      (eq-or v j);
}
