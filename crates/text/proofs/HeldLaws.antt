-- Objectives and rows that tables can hold, as they grow entry by entry. Assumes nothing.
use mathlib.Core.Path.{◌≡◌, refl, sym, ap, ◌∙◌, subst}
use mathlib.Core.List.Memᴰ
use mathlib.Core.List.{List, [], ◌∷◌, ◌++◌, Memᴰ}
use mathlib.Core.Logic.{⊎_elim}
use Prim.Native.Nat.{ℕ, ◌+◌, ◌≤◌}
use native.Mathlib.Omega.{arith}
use lib.ListN.{length, length-append}
use Rattle.instance.specs.Limits.{max_objectives, max_rows, max_terms}
use Rattle.instance.specs.Terms.{Term}
use Rattle.instance.specs.Rows.{Entry}
use Rattle.instance.specs.Meaning.{Instance, entries}
use Rattle.instance.specs.Layout.{all_terms, ObjectiveOk, RowOk, Within}
use Rattle.instance.proofs.NumberLaws.{all_terms-append}
use Rattle.reading.specs.Reading.{instance_of}
use Rattle.text.proofs.StatementLaws.{TermsOk}

-- How many terms entries have.
abbrev pub size : List Entry → ℕ
size es = length (all_terms es)

-- What Within says of objectives and rows, entry by entry, but that there is an objective.
pub record Held (os rs : List Entry) : Type 0 where
  pub few_objectives : length os ≤ max_objectives
  pub few_rows : length rs ≤ max_rows
  pub few_terms : size os + size rs ≤ max_terms
  pub objectives : (e : Entry) → Memᴰ e os → ObjectiveOk e × TermsOk e.terms
  pub rows : (e : Entry) → Memᴰ e rs → RowOk e × TermsOk e.terms

-- ---- size

pub size-append : (xs ys : List Entry) → size (xs ++ ys) ≡ size xs + size ys
size-append xs ys = ap length (all_terms-append xs ys) ∙ length-append (all_terms xs) (all_terms ys)

pub size-cons : (e : Entry) (es : List Entry) → size (e ∷ es) ≡ length e.terms + size es
unfolding all_terms
size-cons e es = length-append e.terms (all_terms es)

pub size_none : size [] ≡ 0
unfolding all_terms
size_none = refl

-- ---- terms of all entries

-- a term of an entry is one of all
member-all : (es : List Entry) (e : Entry) (t : Term) → Memᴰ e es → Memᴰ t e.terms → Memᴰ t (all_terms es)
unfolding all_terms
member-all [] e t m n = absurd (Memᴰ.not-nil m)
member-all (d ∷ es) e t m n = ⊎_elim
    (λ q. Memᴰ.append_left (all_terms es) (subst (λ (x : Entry). Memᴰ t x.terms) q n))
    (λ q. Memᴰ.append_right d.terms (member-all es e t q n))
    (Memᴰ.cases_cons m)

-- and each of all is a term of an entry
all-ok : (es : List Entry) → ((e : Entry) → Memᴰ e es → TermsOk e.terms) → TermsOk (all_terms es)
unfolding all_terms
all-ok [] h t m = absurd (Memᴰ.not-nil m)
all-ok (e ∷ es) h t m = ⊎_elim (h e (Memᴰ.head refl) t) (all-ok es (λ d n. h d (Memᴰ.tail n)) t) (Memᴰ.append_cases e.terms m)

-- ---- Held and Within

pub within_held : {i : Instance} → Within i → Held i.objectives i.rows
within_held {i} w = record {
  few_objectives = w.few_objectives;
  few_rows = w.few_rows;
  few_terms = omega (arith, size-append i.objectives i.rows, w.few_terms);
  objectives = λ e m. (w.objectives e m, λ t n. w.terms t (member-all (entries i) e t (Memᴰ.append_left i.rows m) n));
  rows = λ e m. (w.rows e m, λ t n. w.terms t (member-all (entries i) e t (Memᴰ.append_right i.objectives m) n));
}

pub held-within : {os rs : List Entry} → Held os rs → 1 ≤ length os → Within (instance_of os rs)
held-within {os} {rs} h some_one = record {
  some_objective = some_one;
  few_objectives = h.few_objectives;
  few_rows = h.few_rows;
  few_terms = omega (arith, size-append os rs, h.few_terms);
  objectives = λ e m. (h.objectives e m).0;
  rows = λ e m. (h.rows e m).0;
  terms = all-ok (os ++ rs) (λ e m. ⊎_elim (λ n. (h.objectives e n).1) (λ n. (h.rows e n).1) (Memᴰ.append_cases os m));
  variables = refl;
}

-- ---- one entry more

each_snoc : (P : Entry → Type 0) (es : List Entry) (e : Entry) → ((d : Entry) → Memᴰ d es → P d) → P e → (d : Entry) → Memᴰ d (es ++ (e ∷ [])) → P d
each_snoc P es e h p d m = ⊎_elim (h d) (λ n. subst P (sym (Memᴰ.eq_of_singleton n)) p) (Memᴰ.append_cases es m)

size-snoc : (es : List Entry) (e : Entry) → size (es ++ (e ∷ [])) ≡ size es + length e.terms
size-snoc es e = omega (arith, size-append es (e ∷ []), size-cons e [], size_none)

pub held_none : Held [] []
unfolding all_terms
held_none = record {
  few_objectives = omega arith;
  few_rows = omega arith;
  few_terms = omega arith;
  objectives = λ e m. absurd (Memᴰ.not-nil m);
  rows = λ e m. absurd (Memᴰ.not-nil m);
}

module _ {os rs : List Entry} (h : Held os rs) (e : Entry) (ok : TermsOk e.terms) (room : size os + size rs + length e.terms ≤ max_terms) where
  pub held-objective : ObjectiveOk e → length os + 1 ≤ max_objectives → Held (os ++ (e ∷ [])) rs
  held-objective o l = record {
    few_objectives = omega (arith, length-append os (e ∷ []));
    few_rows = h.few_rows;
    few_terms = omega (arith, size-snoc os e);
    objectives = each_snoc (λ (d : Entry). ObjectiveOk d × TermsOk d.terms) os e h.objectives (o, ok);
    rows = h.rows;
  }

  pub held-row : RowOk e → length rs + 1 ≤ max_rows → Held os (rs ++ (e ∷ []))
  held-row o l = record {
    few_objectives = h.few_objectives;
    few_rows = omega (arith, length-append rs (e ∷ []));
    few_terms = omega (arith, size-snoc rs e);
    objectives = h.objectives;
    rows = each_snoc (λ (d : Entry). RowOk d × TermsOk d.terms) rs e h.rows (o, ok);
  }
