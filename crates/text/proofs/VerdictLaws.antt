-- An entry passes the tests of reading exactly where tables can hold it after the entries before it. Assumes nothing.
use mathlib.Core.Path.{◌≡◌, refl, sym, ap, ap₂, ◌∙◌, subst}
use mathlib.Core.Bool.{Bool, true, false, not, cond, ◌&&◌, ◌||◌}
use mathlib.Core.List.Memᴰ
use mathlib.Core.List.{List, [], ◌∷◌, ◌++◌, Memᴰ}
use mathlib.Core.Logic.{inl, inr, ⊎_elim}
use Prim.Native.Nat.{ℕ, zero, suc, ◌+◌, ◌≤◌}
use native.Mathlib.Omega.{arith}
use borrow.Author.Tests.{le-ltb, lt-leb, ltb-false, leb-false, eq-eqb, ne_eqb, eqb-false}
use lib.Dec.{eqb, ltb, leb}
use lib.IntN.{nat_abs}
use lib.ListN.{length, length-append}
use Rattle.words.proofs.ByteLaws.{clash}
use Rattle.instance.specs.Limits.{max_objectives, max_rows, max_terms, max_variable, max_coef, max_bound}
use Rattle.instance.specs.Terms.{Term}
use Rattle.instance.specs.Rows.{Entry}
use Rattle.instance.specs.Layout.{ObjectiveOk, RowOk}
use Rattle.reading.specs.Reading.{any, is_wide, is_unnamed, is_first, is_full, verdict, add_to}
use Rattle.text.proofs.StatementLaws.{TermsOk}
use Rattle.text.proofs.KindLaws.{Kinded}
use Rattle.text.proofs.HeldLaws.{size, Held, size-append, size-cons, size_none, held-objective, held-row}

-- ---- tests

or-false : (a b : Bool) → a ≡ false → b ≡ false → a || b ≡ false
or-false a b p q = ap₂ (λ (x y : Bool). x || y) p q

or_left : (a b : Bool) → a || b ≡ false → a ≡ false
or_left true b e = clash (sym e)
or_left false b e = refl

or_right : (a b : Bool) → a || b ≡ false → b ≡ false
or_right true b e = clash (sym e)
or_right false b e = e

-- ---- any

any_none : (p : Term → Bool) (ts : List Term) → ((t : Term) → Memᴰ t ts → p t ≡ false) → any p ts ≡ false
unfolding any
any_none p [] h = refl
any_none p (t ∷ ts) h = or-false (p t) (any p ts) (h t (Memᴰ.head refl)) (any_none p ts (λ u m. h u (Memᴰ.tail m)))

none_any : (p : Term → Bool) (ts : List Term) → any p ts ≡ false → (t : Term) → Memᴰ t ts → p t ≡ false
unfolding any
none_any p [] h t m = absurd (Memᴰ.not-nil m)
none_any p (u ∷ ts) h t m = ⊎_elim (λ e. ap p e ∙ or_left (p u) (any p ts) h) (none_any p ts (or_right (p u) (any p ts) h) t) (Memᴰ.cases_cons m)

-- ---- terms in range

terms-narrow : (ts : List Term) → TermsOk ts → any is_wide ts ≡ false
terms-narrow ts h = any_none is_wide ts (λ t m. le-ltb max_coef (nat_abs t.coef) (h t m).small)

terms-named : (ts : List Term) → TermsOk ts → any is_unnamed ts ≡ false
terms-named ts h = any_none is_unnamed ts (λ t m. or-false (eqb (nat_abs t.lit) 0) (ltb max_variable (nat_abs t.lit)) (some-lit t m) (le-ltb max_variable (nat_abs t.lit) (h t m).named.high))
  where
    some-lit : (t : Term) → Memᴰ t ts → eqb (nat_abs t.lit) 0 ≡ false
    some-lit t m = ne_eqb (nat_abs t.lit) 0 (λ e. omega (arith, (h t m).named.low))

terms-ok : (ts : List Term) → any is_wide ts ≡ false → any is_unnamed ts ≡ false → TermsOk ts
terms-ok ts w u t m = record {
  small = ltb-false max_coef (nat_abs t.coef) (none_any is_wide ts w t m);
  named = record { low = low; high = ltb-false max_variable (nat_abs t.lit) (or_right (eqb (nat_abs t.lit) 0) (ltb max_variable (nat_abs t.lit)) named) };
}
  where
    named : is_unnamed t ≡ false
    named = none_any is_unnamed ts u t m

    low : 1 ≤ nat_abs t.lit
    low = positive (nat_abs t.lit) (eqb-false (nat_abs t.lit) 0 (or_left (eqb (nat_abs t.lit) 0) (ltb max_variable (nat_abs t.lit)) named))
      where
        positive : (n : ℕ) → (n ≡ 0 → ⊥) → 1 ≤ n
        positive zero h = absurd (h refl)
        positive (suc n) h = omega arith

-- ---- verdict

-- Each test of an entry fails to find a fault.
pub record Passed (os rs : List Entry) (e : Entry) : Type 0 where
  pub in_order : is_first e && ltb 0 (length rs) ≡ false
  pub room : is_full os rs e ≡ false
  pub terms : TermsOk e.terms
  pub bound : nat_abs e.bound ≤ max_bound
  pub total : size (os ++ rs) + length e.terms ≤ max_terms

pick-zero : (a b c d e : Bool) → a ≡ false → b ≡ false → c ≡ false → d ≡ false → e ≡ false → ◌≡◌ {A = ℕ} (cond a 4 (cond b 5 (cond c 6 (cond d 7 (cond e 8 0))))) 0
pick-zero a b c d e p q r s t = simp (p, q, r, s, t)

zero-pick : (a b c d e : Bool) → ◌≡◌ {A = ℕ} (cond a 4 (cond b 5 (cond c 6 (cond d 7 (cond e 8 0))))) 0 → (a ≡ false) × (b ≡ false) × (c ≡ false) × (d ≡ false) × (e ≡ false)
zero-pick true b c d e h = absurd (omega arith)
zero-pick false true c d e h = absurd (omega arith)
zero-pick false false true d e h = absurd (omega arith)
zero-pick false false false true e h = absurd (omega arith)
zero-pick false false false false true h = absurd (omega arith)
zero-pick false false false false false h = (refl, refl, refl, refl, refl)

module _ (os rs : List Entry) (e : Entry) where
  pub passed-verdict : Passed os rs e → verdict os rs e ≡ 0
  passed-verdict p =
      pick-zero (is_first e && ltb 0 (length rs)) (is_full os rs e) (any is_wide e.terms || ltb max_bound (nat_abs e.bound)) (any is_unnamed e.terms) (ltb max_terms (size (os ++ rs) + length e.terms))
      p.in_order p.room
      (or-false (any is_wide e.terms) (ltb max_bound (nat_abs e.bound)) (terms-narrow e.terms p.terms) (le-ltb max_bound (nat_abs e.bound) p.bound))
      (terms-named e.terms p.terms)
      (le-ltb max_terms (size (os ++ rs) + length e.terms) p.total)

  pub verdict-passed : verdict os rs e ≡ 0 → Passed os rs e
  verdict-passed h =
      let z = zero-pick (is_first e && ltb 0 (length rs)) (is_full os rs e) (any is_wide e.terms || ltb max_bound (nat_abs e.bound)) (any is_unnamed e.terms) (ltb max_terms (size (os ++ rs) + length e.terms)) h in record {
        in_order = z.0;
        room = z.1;
        terms = terms-ok e.terms (or_left (any is_wide e.terms) (ltb max_bound (nat_abs e.bound)) z.2) z.3;
        bound = ltb-false max_bound (nat_abs e.bound) (or_right (any is_wide e.terms) (ltb max_bound (nat_abs e.bound)) z.2);
        total = ltb-false max_terms (size (os ++ rs) + length e.terms) z.4;
      }

-- ---- is_first

pub first-yes : {e : Entry} → ObjectiveOk e → is_first e ≡ true
first-yes {e} o = eq-eqb e.kind 1 o.kind

pub first-no : (e : Entry) → 2 ≤ e.kind → is_first e ≡ false
first-no e h = ne_eqb e.kind 1 (λ q. omega arith)

-- ---- an entry of those that tables can hold passes after those before it

pub objective-passes : (done todo : List Entry) {rows : List Entry} (e : Entry) → Held (done ++ (e ∷ todo)) rows → Passed done [] e
objective-passes done todo {rows} e h =
    let m : ObjectiveOk e × TermsOk e.terms = h.objectives e (Memᴰ.append_right done (Memᴰ.head refl)) in record {
      in_order = ap (λ (t : Bool). t && ltb 0 0) (first-yes m.0);
      room = ap (λ (t : Bool). cond t (leb max_objectives (length done)) (leb max_rows 0)) (first-yes m.0) ∙ lt-leb max_objectives (length done) (omega (arith, h.few_objectives, length-append done (e ∷ todo)));
      terms = m.1;
      bound = omega (arith, ap nat_abs m.0.bound);
      total = omega (arith, h.few_terms, size-append done (e ∷ todo), size-cons e todo, size-append done [], size_none);
    }

pub row-passes : {os : List Entry} (done todo : List Entry) (e : Entry) → Held os (done ++ (e ∷ todo)) → Passed os done e
row-passes {os} done todo e h =
    let m : RowOk e × TermsOk e.terms = h.rows e (Memᴰ.append_right done (Memᴰ.head refl)) in
    let f : is_first e ≡ false = first-no e m.0.kind_low in record {
      in_order = ap (λ (t : Bool). t && ltb 0 (length done)) f;
      room = ap (λ (t : Bool). cond t (leb max_objectives (length os)) (leb max_rows (length done))) f ∙ lt-leb max_rows (length done) (omega (arith, h.few_rows, length-append done (e ∷ todo)));
      terms = m.1;
      bound = m.0.bound;
      total = omega (arith, h.few_terms, size-append done (e ∷ todo), size-cons e todo, size-append os done);
    }

-- ---- an entry that passes is held with those before it

pub passes-held : {os rs : List Entry} {e : Entry} → Held os rs → Kinded e → Passed os rs e → Held (add_to (is_first e) os e) (add_to (not (is_first e)) rs e)
passes-held {os} {rs} {e} h (inl o) p =
    subst (λ (t : Bool). Held (add_to t os e) (add_to (not t) rs e)) (sym (first-yes o))
    (held-objective h e p.terms (omega (arith, p.total, size-append os rs)) o
    (omega (arith, leb-false max_objectives (length os) (sym (ap (λ (t : Bool). cond t (leb max_objectives (length os)) (leb max_rows (length rs))) (first-yes o)) ∙ p.room))))
passes-held {os} {rs} {e} h (inr k) p =
    let f : is_first e ≡ false = first-no e k.0 in
    subst (λ (t : Bool). Held (add_to t os e) (add_to (not t) rs e)) (sym f)
    (held-row h e p.terms (omega (arith, p.total, size-append os rs)) (record { kind_low = k.0; kind_high = k.1; bound = p.bound })
    (omega (arith, leb-false max_rows (length rs) (sym (ap (λ (t : Bool). cond t (leb max_objectives (length os)) (leb max_rows (length rs))) f) ∙ p.room))))
