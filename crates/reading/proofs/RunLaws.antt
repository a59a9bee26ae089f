-- A run of terms, one term more. Assumes nothing.
use mathlib.Core.Path.{◌≡◌, refl, sym, ap, ap₂, ◌∙◌, subst}
use mathlib.Core.Bool.{Bool, true, false, cond, ◌||◌}
use mathlib.Core.List.{List, [], ◌∷◌, ◌++◌}
use Prim.Native.Nat.{ℕ, suc, ◌+◌, ◌*◌, ◌<◌, max}
use native.Mathlib.Decide.{dec_lt}
use native.Mathlib.Omega.{arith}
use lib.IntN.{ℤ, nat_abs}
use lib.ListN.{length, drop, set, length-set, length-append}
use lib.Seq.{drop-set-lt}
use Rattle.words.specs.declared.Place.TheVariants.{Inside}
use Rattle.words.specs.Tokens.{Mark, marks_at}
use Rattle.instance.specs.Limits.{max_terms, term_room}
use Rattle.instance.specs.Terms.{Term, highest}
use Rattle.instance.proofs.SumLaws.{highest-append}
use Rattle.reading.specs.declared.terms.TermRead.{TermRead}
use Rattle.reading.specs.declared.terms.Run.{Run}
use Rattle.reading.specs.Reading.{any, is_wide, is_unnamed}
use Rattle.reading.specs.Stored.{term_of, is_stored, store_at, stored}
use Rattle.reading.specs.Steps.{Reached, IsTerm, Longer, RunIs, Kept}
use Rattle.reading.proofs.CellLaws.{store-full}
use Rattle.reading.proofs.ParseLaws.{reached-none, reached-term, reached_then}

-- ---- any

pub or-none : (a : Bool) → a ≡ a || false
or-none true = refl
or-none false = refl

or_assoc : (a b c : Bool) → a || (b || c) ≡ (a || b) || c
or_assoc true b c = refl
or_assoc false b c = refl

pub any_append : (p : Term → Bool) (ts us : List Term) → any p (ts ++ us) ≡ any p ts || any p us
unfolding any
any_append p [] us = refl
any_append p (t ∷ ts) us = ap (λ (b : Bool). p t || b) (any_append p ts us) ∙ or_assoc (p t) (any p ts) (any p us)

any_snoc : (p : Term → Bool) (ts : List Term) (t : Term) → any p (ts ++ (t ∷ [])) ≡ any p ts || p t
unfolding any
any_snoc p ts t = any_append p ts (t ∷ []) ∙ ap (λ (b : Bool). any p ts || b) (sym (or-none (p t)))

-- ---- highest

max-zero : (n : ℕ) → max n 0 ≡ n
max-zero n = omega arith

highest-snoc : (ts : List Term) (t : Term) → highest (ts ++ (t ∷ [])) ≡ max (highest ts) (nat_abs t.lit)
unfolding highest
highest-snoc ts t = highest-append ts (t ∷ []) ∙ ap (max (highest ts)) (max-zero (nat_abs t.lit))

-- ---- stored

pub stored-append : (ts : List ℤ) (k : ℕ) (us vs : List Term) → stored ts k (us ++ vs) ≡ stored (stored ts k us) (k + length us) vs
unfolding stored
stored-append ts k [] vs = ap (λ (j : ℕ). stored ts j vs) same
  where
    same : k ≡ k + 0
    same = omega arith
stored-append ts k (u ∷ us) vs = stored-append (store_at ts k u) (suc k) us vs ∙ ap (λ (j : ℕ). stored (stored (store_at ts k u) (suc k) us) j vs) same
  where
    same : suc k + length us ≡ k + suc (length us)
    same = omega arith

stored-snoc : (ts : List ℤ) (k : ℕ) (us : List Term) (t : Term) → stored ts k (us ++ (t ∷ [])) ≡ store_at (stored ts k us) (k + length us) t
unfolding stored
stored-snoc ts k us t = stored-append ts k us (t ∷ [])

-- what a choice between two tables keeps
pick-length : (b : Bool) (xs ys : List ℤ) → length xs ≡ length ys → length (cond b xs ys) ≡ length ys
pick-length true xs ys e = e
pick-length false xs ys e = refl

store_length : (ts : List ℤ) (k : ℕ) (t : Term) → length (store_at ts k t) ≡ length ts
store_length ts k t = pick-length (is_stored k t) (set (set ts (k * 2) t.coef) (k * 2 + 1) t.lit) ts (simp length-set)

pub stored-length : (ts : List ℤ) (k : ℕ) (us : List Term) → length (stored ts k us) ≡ length ts
unfolding stored
stored-length ts k [] = refl
stored-length ts k (u ∷ us) = stored-length (store_at ts k u) (suc k) us ∙ store_length ts k u

-- beyond the room all is as found
pick-kept : (b : Bool) (xs ys : List ℤ) → drop term_room xs ≡ drop term_room ys → drop term_room (cond b xs ys) ≡ drop term_room ys
pick-kept true xs ys e = e
pick-kept false xs ys e = refl

store_kept : (ts : List ℤ) (k : ℕ) (t : Term) → Kept ts (store_at ts k t)
store_kept ts k t = by (dec_lt k max_terms)
  where
    inside : k < max_terms → Kept ts (set (set ts (k * 2) t.coef) (k * 2 + 1) t.lit)
    inside h = drop-set-lt term_room (set ts (k * 2) t.coef) (k * 2 + 1) t.lit (omega arith) ∙ drop-set-lt term_room ts (k * 2) t.coef (omega arith)

    by : Dec (k < max_terms) → Kept ts (store_at ts k t)
    by (yes h) = pick-kept (is_stored k t) (set (set ts (k * 2) t.coef) (k * 2 + 1) t.lit) ts (inside h)
    by (no h) = ap (drop term_room) (sym (store-full ts k t (omega arith)))

pub stored-kept : (ts : List ℤ) (k : ℕ) (us : List Term) → Kept ts (stored ts k us)
unfolding stored
stored-kept ts k [] = refl
stored-kept ts k (u ∷ us) = stored-kept (store_at ts k u) (suc k) us ∙ store_kept ts k u

-- ---- the run so far

pub run-start : (text : List ℕ) (base : ℕ) (before : List ℤ) (r : Run) → r.count ≡ 0 → r.wide ≡ false → r.unnamed ≡ false → r.top ≡ 0 → r.rest.now ≡ text → RunIs text base before before r
unfolding any highest stored
run-start text base before r n w u t e = record {
  terms = [];
  reached = subst (λ (l : List ℕ). Reached [] (marks_at Inside text) (marks_at Inside l)) (sym e) (reached-none (marks_at Inside text));
  few = let l : length r.rest.now ≡ length text = ap length e in omega arith;
  count = n;
  wide = w;
  unnamed = u;
  top = t;
  left = refl;
}

-- one term more: what is stored, the flags and the highest variable follow
module _ {text : List ℕ} {base : ℕ} {before now : List ℤ} {r : Run} (g : RunIs text base before now r) where
  pub run-length : length now ≡ length before
  run-length = ap length g.left ∙ stored-length before base g.terms

  pub run-kept : Kept before now
  run-kept = ap (drop term_room) g.left ∙ stored-kept before base g.terms

  pub run-step : (t : TermRead) (r' : Run) → IsTerm r.rest.now t → Longer r t r' → {now' : List ℤ} → now' ≡ store_at now (base + r.count) (term_of t.coef t.lit) → RunIs text base before now' r'
  run-step t r' i l {now'} e = record {
    terms = g.terms ++ (one ∷ []);
    reached = subst (λ (x : List ℕ). Reached (g.terms ++ (one ∷ [])) (marks_at Inside text) (marks_at Inside x)) (sym l.rest) (reached_then g.terms (one ∷ []) g.reached step);
    few = let n : length r'.rest.now ≡ length t.rest.now = ap length l.rest in omega (arith, l.count, g.few, i.fewer);
    count = l.count ∙ ap (λ (n : ℕ). n + 1) g.count ∙ sym more;
    wide = l.wide ∙ ap (λ (b : Bool). b || is_wide one) g.wide ∙ sym (any_snoc is_wide g.terms one);
    unnamed = l.unnamed ∙ ap (λ (b : Bool). b || is_unnamed one) g.unnamed ∙ sym (any_snoc is_unnamed g.terms one);
    top = l.top ∙ ap (λ (n : ℕ). max n (nat_abs t.lit)) g.top ∙ sym (highest-snoc g.terms one);
    left = e ∙ ap₂ (λ (ts : List ℤ) (n : ℕ). store_at ts (base + n) one) g.left g.count ∙ sym (stored-snoc before base g.terms one);
  }
    where
      one : Term
      one = term_of t.coef t.lit

      more : length (g.terms ++ (one ∷ [])) ≡ length g.terms + 1
      more = length-append g.terms (one ∷ [])

      step : Reached (one ∷ []) (marks_at Inside r.rest.now) (marks_at Inside t.rest.now)
      step = subst (λ (ms : List Mark). Reached (one ∷ []) ms (marks_at Inside t.rest.now)) (sym i.marks) (reached-term i.coef_word i.lit_word (marks_at Inside t.rest.now) t.coef t.lit i.plain i.coef_is i.lit_is)
