-- The text of an instance within the limits is at most 61,724 bytes: each term has at most 14, each row 17 more, each objective 7 more.
-- Assumes nothing.
use mathlib.Core.Path.{◌≡◌, refl, sym, ap, ◌∙◌}
use mathlib.Core.List.{List, [], ◌∷◌, ◌++◌, append_assoc, Memᴰ}
use Prim.Native.Nat.{ℕ, ◌+◌, ◌*◌, ◌≤◌}
use native.Mathlib.Omega.{arith}
use lib.ListN.{length, length-append}
use Rattle.instance.specs.Terms.{Term, TermOk}
use Rattle.instance.specs.Rows.{Entry}
use Rattle.instance.specs.Meaning.{Instance, entries}
use Rattle.instance.specs.Layout.{all_terms, ObjectiveOk, RowOk, Within}
use Rattle.writing.specs.Limits.{max_term_text, max_row_text, objective_text, max_written}
use Rattle.writing.specs.Writing.{term_text, terms_text, statement_text, statements_text, instance_text}
use Rattle.writing.proofs.LengthLaws.{term_in, objective-in, row_in}

-- ---- terms_text, statements_text, of two lists

pub terms_text-append : (xs ys : List Term) → terms_text (xs ++ ys) ≡ terms_text xs ++ terms_text ys
unfolding terms_text
terms_text-append [] ys = refl
terms_text-append (t ∷ xs) ys =
    ap (λ (l : List ℕ). term_text t ++ l) (terms_text-append xs ys) ∙ sym (append_assoc (term_text t) (terms_text xs) (terms_text ys))

pub statements_text-append : (xs ys : List Entry) → statements_text (xs ++ ys) ≡ statements_text xs ++ statements_text ys
unfolding statements_text
statements_text-append [] ys = refl
statements_text-append (e ∷ xs) ys =
    ap (λ (l : List ℕ). statement_text e ++ l) (statements_text-append xs ys)
    ∙ sym (append_assoc (statement_text e) (statements_text xs) (statements_text ys))

-- ---- the length of all terms of some entries

abbrev pub sums_length : List Entry → ℕ
sums_length es = length (terms_text (all_terms es))

pub sums-cons : (e : Entry) (es : List Entry) → sums_length (e ∷ es) ≡ length (terms_text e.terms) + sums_length es
unfolding all_terms
sums-cons e es = ap length (terms_text-append e.terms (all_terms es)) ∙ length-append (terms_text e.terms) (terms_text (all_terms es))

pub sums-append : (xs ys : List Entry) → sums_length (xs ++ ys) ≡ sums_length xs + sums_length ys
unfolding all_terms terms_text
sums-append [] ys = omega arith
sums-append (e ∷ xs) ys = omega (arith, sums-cons e (xs ++ ys), sums-cons e xs, sums-append xs ys)

pub terms-most : (ts : List Term) → ((t : Term) → Memᴰ t ts → TermOk t) → length (terms_text ts) ≤ length ts * max_term_text
unfolding terms_text
terms-most [] h = omega arith
terms-most (t ∷ ts) h =
    omega (
      arith,
      length-append (term_text t) (terms_text ts),
      term_in t (h t (Memᴰ.head refl)),
      terms-most ts (λ u m. h u (Memᴰ.tail m)),
    )

-- ---- the length of some statements, by that of all their terms

statements-cons : (e : Entry) (es : List Entry) → length (statements_text (e ∷ es)) ≡ length (statement_text e) + length (statements_text es)
unfolding statements_text
statements-cons e es = length-append (statement_text e) (statements_text es)

pub objectives-length : (es : List Entry) → ((e : Entry) → Memᴰ e es → ObjectiveOk e)
    → length (statements_text es) ≡ sums_length es + length es * objective_text
unfolding statements_text all_terms terms_text
objectives-length [] h = omega arith
objectives-length (e ∷ es) h =
    omega (
      arith,
      statements-cons e es,
      sums-cons e es,
      objective-in e (h e (Memᴰ.head refl)),
      objectives-length es (λ u m. h u (Memᴰ.tail m)),
    )

pub rows-most : (es : List Entry) → ((e : Entry) → Memᴰ e es → RowOk e) → length (statements_text es) ≤ sums_length es + length es * max_row_text
unfolding statements_text all_terms terms_text
rows-most [] h = omega arith
rows-most (e ∷ es) h =
    omega (
      arith,
      statements-cons e es,
      sums-cons e es,
      row_in e (h e (Memᴰ.head refl)),
      rows-most es (λ u m. h u (Memᴰ.tail m)),
    )

-- ---- instance_text

pub instance-length : (i : Instance) → length (instance_text i) ≡ length (statements_text i.objectives) + length (statements_text i.rows)
instance-length i =
    ap length (statements_text-append i.objectives i.rows)
    ∙ length-append (statements_text i.objectives) (statements_text i.rows)

-- the longest text is 61,724 bytes
pub within-length : (i : Instance) → Within i → length (instance_text i) ≤ max_written
within-length i w =
    omega (
      arith,
      instance-length i,
      objectives-length i.objectives w.objectives,
      rows-most i.rows w.rows,
      sums-append i.objectives i.rows,
      terms-most (all_terms (entries i)) w.terms,
      w.few_terms,
      w.few_rows,
      w.few_objectives,
    )
