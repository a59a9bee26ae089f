-- The longest text is reached: an instance within the limits whose text has 61,724 bytes. It has 4 objectives, the first with 4,096
-- terms `-1000000 ~x64`, and 256 rows `>= -4096000000` without terms. The lengths come from laws of repetition, with n terms and
-- m rows, so nothing of that size is computed. Assumes nothing.
use mathlib.Core.Path.{◌≡◌, refl, sym, ap, ◌∙◌, subst}
use mathlib.Core.List.Memᴰ
use mathlib.Core.List.{List, [], ◌∷◌, ◌++◌, append-nil, Memᴰ}
use mathlib.Core.Logic.{⊎_elim}
use Prim.Native.Nat.{ℕ, zero, suc, ◌+◌, ◌*◌, ◌≤◌}
use native.Mathlib.Nat.{suc-mul}
use native.Mathlib.Omega.{arith}
use lib.IntN.{pos, neg_ℤ}
use lib.ListN.{length, replicate, length-replicate, length-append}
use Rattle.decimal.specs.Decimal.{decimal_in}
use Rattle.instance.specs.Limits.{max_objectives, max_rows, max_terms, max_variable, max_coef, max_bound}
use Rattle.instance.specs.Terms.{Term, TermOk, highest}
use Rattle.instance.specs.Rows.{Entry}
use Rattle.instance.specs.Meaning.{Instance, entries}
use Rattle.instance.specs.Layout.{all_terms, ObjectiveOk, RowOk, Within}
use Rattle.writing.specs.Limits.{max_term_text, max_row_text, objective_text, max_written}
use Rattle.writing.specs.Writing.{term_text, terms_text, statement_text, statements_text, instance_text}
use Rattle.writing.proofs.WithinLaws.{sums_length, objectives-length, instance-length}

-- ---- the instance

-- `-1000000 ~x64`
long_term : Term
long_term = record { coef = neg_ℤ (pos max_coef); lit = neg_ℤ (pos max_variable) }

-- `min: ` and n such terms
long_objective : ℕ → Entry
long_objective n = record { kind = 1; terms = replicate n long_term; bound = pos 0 }

-- `>= -4096000000`
long_row : Entry
long_row = record { kind = 2; terms = []; bound = neg_ℤ (pos max_bound) }

long_objectives : ℕ → List Entry
long_objectives n = long_objective n ∷ (long_objective 0 ∷ (long_objective 0 ∷ (long_objective 0 ∷ [])))

long : ℕ → ℕ → Instance
long n m = record { variables = highest (replicate n long_term); objectives = long_objectives n; rows = replicate m long_row }

-- with as many terms and rows as there can be
pub longest : Instance
longest = long max_terms max_rows

-- ---- repetition

module _ {A : Type 0} (P : A → Type 0) where
  cons-each : {a : A} {l : List A} → P a → ((x : A) → Memᴰ x l → P x) → (x : A) → Memᴰ x (a ∷ l) → P x
  cons-each p h x m = ⊎_elim (λ e. subst P (sym e) p) (λ t. h x t) (Memᴰ.cases_cons m)

  nil-each : (x : A) → Memᴰ x [] → P x
  nil-each x m = absurd (Memᴰ.not-nil m)

  replicate-each : (n : ℕ) (a : A) → P a → (x : A) → Memᴰ x (replicate n a) → P x
  replicate-each zero a p = nil-each
  replicate-each (suc n) a p = cons-each p (replicate-each n a p)

pub terms_text-replicate : (n : ℕ) (t : Term) → length (terms_text (replicate n t)) ≡ n * length (term_text t)
unfolding terms_text
terms_text-replicate zero t = omega arith
terms_text-replicate (suc n) t =
    omega (
      arith,
      length-append (term_text t) (terms_text (replicate n t)),
      terms_text-replicate n t,
      suc-mul n (length (term_text t)),
    )

pub statements_text-replicate : (n : ℕ) (e : Entry) → length (statements_text (replicate n e)) ≡ n * length (statement_text e)
unfolding statements_text
statements_text-replicate zero e = omega arith
statements_text-replicate (suc n) e =
    omega (
      arith,
      length-append (statement_text e) (statements_text (replicate n e)),
      statements_text-replicate n e,
      suc-mul n (length (statement_text e)),
    )

-- ---- its lengths

long_term-length : length (term_text long_term) ≡ max_term_text
unfolding long_term decimal_in
long_term-length = refl

long_row-length : length (statement_text long_row) ≡ max_row_text
unfolding long_row decimal_in terms_text
long_row-length = refl

no-terms : (m : ℕ) → all_terms (replicate m long_row) ≡ []
unfolding long_row all_terms
no-terms zero = refl
no-terms (suc m) = no-terms m

objectives-terms : (n : ℕ) → all_terms (long_objectives n) ≡ replicate n long_term
unfolding long_objectives long_objective all_terms
objectives-terms n = append-nil (replicate n long_term)

long-terms : (n m : ℕ) → all_terms (entries (long n m)) ≡ replicate n long_term
unfolding long long_objectives long_objective all_terms
long-terms n m = ap (λ (l : List Term). replicate n long_term ++ l) (no-terms m) ∙ append-nil (replicate n long_term)

-- ---- it is within the limits

long_term-ok : TermOk long_term
unfolding long_term
long_term-ok = record { small = omega arith; named = record { low = omega arith; high = omega arith } }

long_row-ok : RowOk long_row
unfolding long_row
long_row-ok = record { kind_low = omega arith; kind_high = omega arith; bound = omega arith }

long_objective-ok : (n : ℕ) → ObjectiveOk (long_objective n)
unfolding long_objective
long_objective-ok n = record { kind = refl; bound = refl }

long_objectives-ok : (n : ℕ) (e : Entry) → Memᴰ e (long_objectives n) → ObjectiveOk e
unfolding long_objectives
long_objectives-ok n =
    cons-each ObjectiveOk (long_objective-ok n)
    (cons-each ObjectiveOk (long_objective-ok 0)
    (cons-each ObjectiveOk (long_objective-ok 0) (cons-each ObjectiveOk (long_objective-ok 0) (nil-each ObjectiveOk))))

long-within : (n m : ℕ) → n ≤ max_terms → m ≤ max_rows → Within (long n m)
unfolding long long_objectives
long-within n m h l =
    let all : all_terms (entries (long n m)) ≡ replicate n long_term = long-terms n m in record {
      some_objective = omega arith;
      few_objectives = omega arith;
      few_rows = omega (arith, length-replicate m long_row);
      few_terms = omega (arith, ap length all, length-replicate n long_term);
      objectives = long_objectives-ok n;
      rows = replicate-each RowOk m long_row long_row-ok;
      terms =
          subst (λ (ts : List Term). (t : Term) → Memᴰ t ts → TermOk t) (sym all)
          (replicate-each TermOk n long_term long_term-ok);
      variables = ap highest (sym all);
    }

pub longest-within : Within longest
unfolding longest
longest-within = long-within max_terms max_rows (omega arith) (omega arith)

-- ---- and its text has the longest length

long-length : (n m : ℕ) → length (instance_text (long n m)) ≡ n * max_term_text + m * max_row_text + max_objectives * objective_text
unfolding long long_objectives
long-length n m =
    let sums : sums_length (long_objectives n) ≡ n * max_term_text =
    ap (λ (ts : List Term). length (terms_text ts)) (objectives-terms n)
    ∙ terms_text-replicate n long_term
    ∙ ap (λ (k : ℕ). n * k) long_term-length in
    let rows : length (statements_text (replicate m long_row)) ≡ m * max_row_text =
    statements_text-replicate m long_row ∙ ap (λ (k : ℕ). m * k) long_row-length in
    omega (arith, instance-length (long n m), objectives-length (long_objectives n) (long_objectives-ok n))

pub longest-length : length (instance_text longest) ≡ max_written
unfolding longest
longest-length = long-length max_terms max_rows
