-- What a verdict says of an entry. Assumes nothing.
use mathlib.Core.Path.{◌≡◌, refl, sym, ap, ap₂, ◌∙◌}
use mathlib.Core.Bool.{Bool, true, false, not, cond, ◌||◌, ◌&&◌}
use mathlib.Core.List.{List, [], ◌∷◌, ◌++◌, append_assoc, append-nil}
use Prim.Native.Nat.{ℕ, suc, ◌+◌, ◌-◌, ◌≤◌}
use native.Mathlib.Omega.{arith}
use lib.Dec.{ltb, leb}
use lib.IntN.{nat_abs}
use lib.ListN.{length, length-append}
use borrow.Author.Tests.{ltb-false, leb-false}
use Rattle.words.proofs.ByteLaws.{or-neither}
use Rattle.instance.specs.Limits.{max_objectives, max_rows, max_terms, max_bound}
use Rattle.instance.specs.Rows.{Entry}
use Rattle.instance.specs.Layout.{all_terms}
use Rattle.reading.specs.Reading.{any, is_wide, is_unnamed, is_first, is_full, verdict, add_to}
use Rattle.reading.specs.Outcomes.{late_by, full_by, verdict_by}

-- ---- verdict

-- the verdict by what the code knows
pub verdict-as : (os rs : List Entry) (e : Entry) {kind objectives others total count : ℕ} {wide unnamed : Bool}
    → kind ≡ e.kind → objectives ≡ length os → others ≡ length rs → total ≡ length (all_terms (os ++ rs)) → count ≡ length e.terms
    → wide ≡ any is_wide e.terms || ltb max_bound (nat_abs e.bound) → unnamed ≡ any is_unnamed e.terms
    → verdict_by (late_by kind others) (full_by kind objectives others) wide unnamed (total + count) ≡ verdict os rs e
verdict-as os rs e {kind} {objectives} {others} {total} {count} {wide} {unnamed} k o r t c w u =
    ap₂ (λ (a b : Bool). verdict_by a b wide unnamed (total + count)) (ap₂ late_by k r) (ap₂ (λ (a b : ℕ). full_by a b others) k o ∙ ap (full_by e.kind (length os)) r)
    ∙ ap₂ (λ (a b : Bool). verdict_by (late_by e.kind (length rs)) (full_by e.kind (length os) (length rs)) a b (total + count)) w u
    ∙ ap (verdict_by (late_by e.kind (length rs)) (full_by e.kind (length os) (length rs)) (any is_wide e.terms || ltb max_bound (nat_abs e.bound)) (any is_unnamed e.terms)) (ap₂ ◌+◌ t c)

cond-zero : (b : Bool) (n m : ℕ) → cond b (suc n) m ≡ 0 → (b ≡ false) × (m ≡ 0)
cond-zero true n m e = absurd (omega arith)
cond-zero false n m e = (refl, e)

-- an entry that is taken: each cause of a refusal is out
pub record Fine (os rs : List Entry) (e : Entry) : Type 0 where
  pub late : is_first e && ltb 0 (length rs) ≡ false
  pub room : is_full os rs e ≡ false
  pub wide : any is_wide e.terms ≡ false
  pub bound : ltb max_bound (nat_abs e.bound) ≡ false
  pub unnamed : any is_unnamed e.terms ≡ false
  pub terms : length (all_terms (os ++ rs)) + length e.terms ≤ max_terms

pub verdict-zero : (os rs : List Entry) (e : Entry) → verdict os rs e ≡ 0 → Fine os rs e
verdict-zero os rs e h =
    let a = cond-zero (is_first e && ltb 0 (length rs)) 3 _ h in
    let b = cond-zero (is_full os rs e) 4 _ a.1 in
    let c = cond-zero (any is_wide e.terms || ltb max_bound (nat_abs e.bound)) 5 _ b.1 in
    let d = cond-zero (any is_unnamed e.terms) 6 _ c.1 in
    let f = cond-zero (ltb max_terms (length (all_terms (os ++ rs)) + length e.terms)) 7 0 d.1 in
    record {
      late = a.0;
      room = b.0;
      wide = (or-neither (any is_wide e.terms) (ltb max_bound (nat_abs e.bound)) c.0).0;
      bound = (or-neither (any is_wide e.terms) (ltb max_bound (nat_abs e.bound)) c.0).1;
      unnamed = d.0;
      terms = ltb-false max_terms (length (all_terms (os ++ rs)) + length e.terms) f.0;
    }

-- ---- add_to

nil-of : {A : Type 0} (xs : List A) → length xs ≤ 0 → xs ≡ []
nil-of [] h = refl
nil-of (x ∷ xs) h = absurd (omega arith)

module _ {os rs : List Entry} {e : Entry} (f : Fine os rs e) where
  -- the entry comes after all before it
  pub added-last : add_to (is_first e) os e ++ add_to (not (is_first e)) rs e ≡ (os ++ rs) ++ (e ∷ [])
  added-last = by (is_first e) f.late
    where
      by : (b : Bool) → b && ltb 0 (length rs) ≡ false → add_to b os e ++ add_to (not b) rs e ≡ (os ++ rs) ++ (e ∷ [])
      by true h = ap (λ (l : List Entry). (os ++ (e ∷ [])) ++ l) none ∙ append-nil (os ++ (e ∷ [])) ∙ ap (λ (l : List Entry). l ++ (e ∷ [])) (sym (append-nil os)) ∙ ap (λ (l : List Entry). (os ++ l) ++ (e ∷ [])) (sym none)
        where
          none : rs ≡ []
          none = nil-of rs (ltb-false 0 (length rs) h)
      by false h = sym (append_assoc os rs (e ∷ []))

  -- how many objectives and rows there are then
  pub added-objectives : length os ≤ max_objectives → (length (add_to (is_first e) os e) ≡ length os + cond (is_first e) 1 0) × (length (add_to (is_first e) os e) ≤ max_objectives)
  added-objectives few = by (is_first e) f.room
    where
      by : (b : Bool) → cond b (leb max_objectives (length os)) (leb max_rows (length rs)) ≡ false → (length (add_to b os e) ≡ length os + cond b 1 0) × (length (add_to b os e) ≤ max_objectives)
      by true h = (length-append os (e ∷ []), omega (arith, length-append os (e ∷ []), leb-false max_objectives (length os) h))
      by false h = (omega arith, few)

  pub added-rows : length rs ≤ max_rows → (length (add_to (not (is_first e)) rs e) ≡ length rs + (1 - cond (is_first e) 1 0)) × (length (add_to (not (is_first e)) rs e) ≤ max_rows)
  added-rows few = by (is_first e) f.room
    where
      by : (b : Bool) → cond b (leb max_objectives (length os)) (leb max_rows (length rs)) ≡ false → (length (add_to (not b) rs e) ≡ length rs + (1 - cond b 1 0)) × (length (add_to (not b) rs e) ≤ max_rows)
      by true h = (omega arith, few)
      by false h = (length-append rs (e ∷ []), omega (arith, length-append rs (e ∷ []), leb-false max_rows (length rs) h))

pub one-le : (b : Bool) → cond b 1 0 ≤ 1
one-le true = omega arith
one-le false = omega arith
