-- What reading a text answers and leaves, case by case; two answers that the contract allows are equal. Assumes nothing.
use mathlib.Core.Path.{◌≡◌, refl, sym, ap, ap₂, ◌∙◌, subst}
use mathlib.Core.Bool.{Bool, true, false, cond, ◌||◌}
use mathlib.Core.List.{List, [], ◌++◌}
use Prim.Native.Nat.{ℕ, ◌-◌, ◌≤◌, ◌<◌}
use native.Mathlib.Omega.{arith}
use lib.Dec.{T, ltb}
use lib.IntN.{ℤ, pos}
use lib.ListN.{length, drop, replicate}
use borrow.Author.Tests.{lt-ltb, le-ltb}
use Rattle.instance.specs.Limits.{term_room, row_room}
use Rattle.instance.specs.Layout.{term_numbers, all_terms, entry_numbers, filled, term_table, row_table}
use Rattle.std.specs.Prelude.{Result, Err, is_err}
use Rattle.reading.specs.declared.errors.ReadError.{ReadError}
use Rattle.reading.specs.declared.errors.ReadError.TheVariants.{ShortTable, LongText}
use Rattle.reading.specs.Limits.{max_text}
use Rattle.reading.specs.Reading.{Outcome, accepted, refused, read_bytes}
use Rattle.reading.specs.Outcomes.{ReadIs}
use Rattle.reading.specs.Answers.{answer_of, entries_of, is_short, is_long, read_answer, read_terms, read_rows}
use Rattle.reading.proofs.FillLaws.{fill-beyond, fill-length}

-- ---- filled

-- only what stands beyond the room of the table that was found counts
pub refill : (room : ℕ) (xs a b : List ℤ) → drop room a ≡ drop room b → filled room xs a ≡ filled room xs b
refill room xs a b e = ap (λ (l : List ℤ). xs ++ (replicate (room - length xs) (pos 0) ++ l)) e

-- a table that was cleared
module _ (ts : List ℤ) {x : List ℤ} (e : x ≡ term_table [] ts) where
  pub terms-beyond : drop term_room x ≡ drop term_room ts
  unfolding term_numbers all_terms
  terms-beyond = ap (drop term_room) e ∙ fill-beyond term_room [] ts (omega arith)

  pub terms-cleared : x ≡ term_table [] x
  terms-cleared = e ∙ refill term_room (term_numbers (all_terms [])) ts x (sym terms-beyond)

  pub terms-long : term_room ≤ length ts → term_room ≤ length x
  unfolding term_numbers all_terms
  terms-long h = omega (arith, ap length e, fill-length term_room [] ts (omega arith) h)

module _ (rs : List ℤ) {x : List ℤ} (e : x ≡ row_table [] rs) where
  pub rows-beyond : drop row_room x ≡ drop row_room rs
  unfolding entry_numbers
  rows-beyond = ap (drop row_room) e ∙ fill-beyond row_room [] rs (omega arith)

  pub rows-cleared : x ≡ row_table [] x
  rows-cleared = e ∙ refill row_room (entry_numbers 0 []) rs x (sym rows-beyond)

  pub rows_long : row_room ≤ length rs → row_room ≤ length x
  unfolding entry_numbers
  rows_long h = omega (arith, ap length e, fill-length row_room [] rs (omega arith) h)

-- ---- read_answer, read_terms, read_rows

or-true : (a b : Bool) → b ≡ true → a || b ≡ true
or-true true b e = refl
or-true false b e = e

-- what reading answers and leaves
abbrev pub Answers : List ℕ → List ℤ → List ℤ → Result ℕ ReadError → List ℤ → List ℤ → Type 0
Answers text ts rs r ts' rs' = (r ≡ read_answer text ts rs) × ((ts' ≡ read_terms text ts rs) × (rs' ≡ read_rows text ts rs))

module _ (text : List ℕ) (ts rs : List ℤ) where
  answers-as : {short long : Bool} → is_short ts rs ≡ short → is_long text ≡ long
      → {r : Result ℕ ReadError} {ts' rs' : List ℤ} → r ≡ cond short (Err ShortTable) (cond long (Err LongText) (answer_of (read_bytes text)))
      → ts' ≡ cond (short || long) ts (term_table (entries_of (read_bytes text)) ts) → rs' ≡ cond (short || long) rs (row_table (entries_of (read_bytes text)) rs) → Answers text ts rs r ts' rs'
  answers-as {short} {long} s l p q o = (
    p ∙ sym (ap₂ (λ (a b : Bool). cond a (Err ShortTable) (cond b (Err LongText) (answer_of (read_bytes text)))) s l),
    (
      q ∙ sym (ap₂ (λ (a b : Bool). cond (a || b) ts (term_table (entries_of (read_bytes text)) ts)) s l),
      o ∙ sym (ap₂ (λ (a b : Bool). cond (a || b) rs (row_table (entries_of (read_bytes text)) rs)) s l),
    ),
  )

  -- 1: a short table
  pub short-terms : length ts < term_room → Answers text ts rs (Err ShortTable) ts rs
  short-terms h = answers-as (ap (λ (b : Bool). b || ltb (length rs) row_room) (lt-ltb (length ts) term_room h)) refl refl refl refl

  pub short-rows : length rs < row_room → Answers text ts rs (Err ShortTable) ts rs
  short-rows h = answers-as (or-true (ltb (length ts) term_room) (ltb (length rs) row_room) (lt-ltb (length rs) row_room h)) refl refl refl refl

  module _ (t : term_room ≤ length ts) (r : row_room ≤ length rs) where
    wide : is_short ts rs ≡ false
    wide = ap₂ ◌||◌ (le-ltb (length ts) term_room t) (le-ltb (length rs) row_room r)

    -- 2: a long text
    pub long-text : max_text < length text → Answers text ts rs (Err LongText) ts rs
    long-text h = answers-as wide (lt-ltb max_text (length text) h) refl refl refl

    module _ (l : length text ≤ max_text) {x y : List ℤ} (e : x ≡ term_table [] ts) (f : y ≡ row_table [] rs) where
      module _ {x' y' : List ℤ} {a : Result ℕ ReadError} (s : ReadIs text x x' y y' a) where
        -- 0: all statements taken
        pub answers-done : is_err a ≡ false → Answers text ts rs a x' y'
        answers-done n = by (read_bytes text) refl
          where
            by : (o : Outcome) → read_bytes text ≡ o → Answers text ts rs a x' y'
            by (accepted os qs) q = answers-as wide (le-ltb max_text (length text) l)
                s.answer
                (s.terms_left os qs q ∙ refill term_room (term_numbers (all_terms (os ++ qs))) x ts (terms-beyond ts e) ∙ sym (ap (λ (o : Outcome). term_table (entries_of o) ts) q))
                (s.rows_left os qs q ∙ refill row_room (entry_numbers 0 (os ++ qs)) y rs (rows-beyond rs f) ∙ sym (ap (λ (o : Outcome). row_table (entries_of o) rs) q))
            by (refused k z) q = absurd (subst T (sym (ap is_err (s.answer ∙ ap answer_of q)) ∙ n) tt)

        -- 3 to 9: a refusal, and both rooms are cleared again
        pub answers-refused : is_err a ≡ true → {x'' y'' : List ℤ} → x'' ≡ term_table [] x' → y'' ≡ row_table [] y' → Answers text ts rs a x'' y''
        answers-refused n {x''} {y''} p q = by (read_bytes text) refl
          where
            by : (o : Outcome) → read_bytes text ≡ o → Answers text ts rs a x'' y''
            by (accepted os qs) z = absurd (subst T (sym n ∙ ap is_err (s.answer ∙ ap answer_of z)) tt)
            by (refused k m) z = answers-as wide (le-ltb max_text (length text) l)
                s.answer
                (p ∙ refill term_room (term_numbers (all_terms [])) x' ts (s.terms_kept ∙ terms-beyond ts e) ∙ sym (ap (λ (u : Outcome). term_table (entries_of u) ts) z))
                (q ∙ refill row_room (entry_numbers 0 []) y' rs (s.rows_kept ∙ rows-beyond rs f) ∙ sym (ap (λ (u : Outcome). row_table (entries_of u) rs) z))

-- ---- uniqueness

-- two answers that the contract allows are equal, and so is what both tables hold
pub read-unique : (text : List ℕ) (ts rs : List ℤ) {a b : Result ℕ ReadError} {ts' ts'' rs' rs'' : List ℤ} → Answers text ts rs a ts' rs' → Answers text ts rs b ts'' rs'' → (a ≡ b) × (ts' ≡ ts'') × (rs' ≡ rs'')
read-unique text ts rs p q = (p.0 ∙ sym q.0, p.1.0 ∙ sym q.1.0, p.1.1 ∙ sym q.1.1)
