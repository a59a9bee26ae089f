-- A statement that is written says the entry that it was written from. Assumes nothing.
--
-- Each term is written as two words with a space after each, and they are read as the term (WordLaws, MarkLaws); so from the marks of
-- all terms reading comes to what stands after them. For an objective that is the `;`. For a row it is a relation, a bound and the `;`;
-- its first word is a relation or begins with a sign, so it is not `min:`, and no statement begins with `*`, so no line is a comment.
use mathlib.Core.Path.{◌≡◌, refl, sym, ap, ap₂, ◌∙◌, subst}
use mathlib.Core.Bool.{Bool, true, false, cond}
use mathlib.Core.List.{List, [], ◌∷◌, ◌++◌, append_assoc, Memᴰ}
use Rattle.std.specs.Prelude.{Option, Some}
use Prim.Native.Nat.{ℕ, ◌^◌, ◌≤◌, ◌<◌}
use native.Mathlib.Omega.{arith}
use lib.Dec.{eqb}
use lib.IntN.{ℤ, pos, negsuc, nat_abs}
use lib.ListN.{get_or}
use Rattle.decimal.specs.Decimal.{integer, sign_byte, signed, max_digits}
use Rattle.words.specs.declared.Place.TheVariants.{Inside, Start}
use Rattle.words.specs.Tokens.{Mark, word, stop, marks_at}
use Rattle.words.specs.Numbers.{is_min}
use Rattle.instance.specs.Terms.{Term, TermOk}
use Rattle.instance.specs.Rows.{Entry}
use Rattle.instance.specs.Layout.{ObjectiveOk, RowOk}
use Rattle.reading.specs.Grammar.{Words, objective, row, row_end, statement}
use Rattle.reading.specs.Steps.{first_words, is_closed, rest_after, add_terms, Reached}
use Rattle.reading.proofs.ParseLaws.{reached-none, reached-term, reached_then}
use Rattle.reading.proofs.StatementLaws.{adds-last, row-bound}
use Rattle.writing.specs.Writing.{literal_text, term_text, terms_text, relation_text, statement_text}
use Rattle.writing.proofs.TextLaws.{head-objective, head-row, bound-objective, bound-row}
use Rattle.text.proofs.WordLaws.{number-signed, number-integer, literal-text, relation-signed, relation-text, min-signed, min-relation}
use Rattle.text.proofs.MarkLaws.{signed_word, integer-word, literal-word, relation-word, min-word, marks-word, marks-stop, marks_line}

-- Each term is in range.
abbrev pub TermsOk : List Term → Type 0
TermsOk ts = (t : Term) → Memᴰ t ts → TermOk t

-- ---- terms

-- the marks of a term are its two words
marks-term : (t : Term) (more : List ℕ) → marks_at Inside (term_text t ++ more) ≡ word (signed t.coef) ∷ (word (literal_text t.lit) ∷ marks_at Inside more)
marks-term t more =
    ap (marks_at Inside) (append_assoc (signed t.coef) (32 ∷ (literal_text t.lit ++ (32 ∷ []))) more)
    ∙ marks-word (signed_word t.coef) ((literal_text t.lit ++ (32 ∷ [])) ++ more)
    ∙ ap (λ (bs : List ℕ). word (signed t.coef) ∷ marks_at Inside bs) (append_assoc (literal_text t.lit) (32 ∷ []) more)
    ∙ ap (λ (ms : List Mark). word (signed t.coef) ∷ ms) (marks-word (literal-word t.lit) more)

term-reached : (t : Term) (more : List ℕ) → TermOk t → Reached (t ∷ []) (marks_at Inside (term_text t ++ more)) (marks_at Inside more)
term-reached t more h =
    subst (λ (ms : List Mark). Reached (t ∷ []) ms (marks_at Inside more)) (sym (marks-term t more))
    (reached-term (signed t.coef) (literal_text t.lit) (marks_at Inside more) t.coef t.lit
    (relation-signed t.coef) (number-signed t.coef (omega (arith, h.small))) (literal-text t.lit (omega (arith, h.named.high))))

-- from terms that are written the marks lead to what stands after them
terms-reached : (ts : List Term) (more : List ℕ) → TermsOk ts → Reached ts (marks_at Inside (terms_text ts ++ more)) (marks_at Inside more)
unfolding terms_text
terms-reached [] more h = reached-none (marks_at Inside more)
terms-reached (t ∷ ts) more h =
    subst (λ (bs : List ℕ). Reached (t ∷ ts) (marks_at Inside bs) (marks_at Inside more)) (sym (append_assoc (term_text t) (terms_text ts) more))
    (reached_then (t ∷ []) ts (term-reached t (terms_text ts ++ more) (h t (Memᴰ.head refl))) (terms-reached ts more (λ u m. h u (Memᴰ.tail m))))

-- ---- what the marks of a statement say

-- The first statement of the marks is closed and says e; `rest` are the marks after it.
pub record Says (ms : List Mark) (e : Entry) (rest : List Mark) : Type 0 where
  pub closed : is_closed ms ≡ true
  pub entry : statement (first_words ms) ≡ Some e
  pub after : rest_after ms ≡ rest

abbrev entry_of : ℕ → List Term → ℤ → Entry
entry_of kind terms bound = record { kind = kind; terms = terms; bound = bound }

-- ---- an objective

-- `min:`
abbrev min_bytes : List ℕ
min_bytes = 109 ∷ (105 ∷ (110 ∷ (58 ∷ [])))

objective-bytes : (e : Entry) (rest : List ℕ) → e.kind ≡ 1 → statement_text e ++ rest ≡ min_bytes ++ (32 ∷ (terms_text e.terms ++ (59 ∷ (10 ∷ rest))))
objective-bytes e rest k =
    ap₂ (λ (a b : List ℕ). (a ++ (terms_text e.terms ++ (b ++ (59 ∷ (10 ∷ []))))) ++ rest) (sym (head-objective k)) (sym (bound-objective e.bound k))
    ∙ ap (λ (bs : List ℕ). min_bytes ++ (32 ∷ bs)) (append_assoc (terms_text e.terms) (59 ∷ (10 ∷ [])) rest)

objective-marks : (ts : List Term) (rest : List ℕ) → marks_at Start (min_bytes ++ (32 ∷ (terms_text ts ++ (59 ∷ (10 ∷ rest)))))
    ≡ word min_bytes ∷ marks_at Inside (terms_text ts ++ (59 ∷ (10 ∷ rest)))
objective-marks ts rest =
    marks_line (min_bytes ++ (32 ∷ (terms_text ts ++ (59 ∷ (10 ∷ rest))))) (λ e. omega arith)
    ∙ marks-word min-word (terms_text ts ++ (59 ∷ (10 ∷ rest)))

objective-says : (ts : List Term) (rest : List ℕ) → TermsOk ts
    → Says (word min_bytes ∷ marks_at Inside (terms_text ts ++ (59 ∷ (10 ∷ rest)))) (entry_of 1 ts (pos 0)) (marks_at Start rest)
unfolding first_words is_closed rest_after objective
objective-says ts rest h =
    let r = terms-reached ts (59 ∷ (10 ∷ rest)) h in record {
      closed = r.closed_as ∙ ap is_closed (marks-stop rest);
      entry = r.objective_as ∙ ap (λ (ms : List Mark). add_terms ts (objective (first_words ms))) (marks-stop rest) ∙ adds-last ts 1 (pos 0);
      after = r.rest_as ∙ ap rest_after (marks-stop rest);
    }

pub statement-objective : (e : Entry) (rest : List ℕ) → ObjectiveOk e → TermsOk e.terms → Says (marks_at Start (statement_text e ++ rest)) e (marks_at Start rest)
statement-objective e rest o h =
    subst (λ (ms : List Mark). Says ms e (marks_at Start rest)) (sym (ap (marks_at Start) (objective-bytes e rest o.kind) ∙ objective-marks e.terms rest))
    (subst (λ (d : Entry). Says (word min_bytes ∷ marks_at Inside (terms_text e.terms ++ (59 ∷ (10 ∷ rest)))) d (marks_at Start rest))
    (ap₂ (λ (k : ℕ) (b : ℤ). entry_of k e.terms b) (sym o.kind) (sym o.bound))
    (objective-says e.terms rest h))

-- ---- a row

-- what is written after the terms of a row
abbrev end_bytes : ℕ → ℤ → List ℕ → List ℕ
end_bytes kind bound rest = relation_text kind ++ (32 ∷ (integer bound ++ (32 ∷ (59 ∷ (10 ∷ rest)))))

row-bytes : (e : Entry) (rest : List ℕ) → 2 ≤ e.kind → statement_text e ++ rest ≡ terms_text e.terms ++ end_bytes e.kind e.bound rest
row-bytes e rest k =
    let n : e.kind ≡ 1 → ⊥ = λ q. omega arith in
    ap₂ (λ (a b : List ℕ). (a ++ (terms_text e.terms ++ (b ++ (59 ∷ (10 ∷ []))))) ++ rest) (sym (head-row n)) (sym (bound-row e.bound n))
    ∙ simp append_assoc

sign_line : (z : ℤ) → sign_byte z ≡ 42 → ⊥
sign_line (pos n) e = omega arith
sign_line (negsuc n) e = omega arith

relation-line : (kind : ℕ) (bs : List ℕ) → get_or (relation_text kind ++ bs) 0 0 ≡ 42 → ⊥
relation-line kind bs = by (eqb kind 2) (eqb kind 3)
  where
    by : (t u : Bool) → get_or (cond t (62 ∷ (61 ∷ [])) (cond u (60 ∷ (61 ∷ [])) (61 ∷ [])) ++ bs) 0 0 ≡ 42 → ⊥
    by true u e = omega arith
    by false true e = omega arith
    by false false e = omega arith

-- a first word that is not `min:` begins a row
not-min : (w : List ℕ) (ws : Words) → is_min w ≡ false → statement (w ∷ ws) ≡ row (w ∷ ws)
not-min w ws h = ap (λ (t : Bool). cond t (objective ws) (row (w ∷ ws))) h

module _ (kind : ℕ) (bound : ℤ) (rest : List ℕ) where
  -- a row begins with a sign or a relation, so not with `*`
  row_line : (ts : List Term) → get_or (terms_text ts ++ end_bytes kind bound rest) 0 0 ≡ 42 → ⊥
  unfolding terms_text
  row_line [] = relation-line kind (32 ∷ (integer bound ++ (32 ∷ (59 ∷ (10 ∷ rest)))))
  row_line (t ∷ ts) = sign_line t.coef

  end-marks : marks_at Inside (end_bytes kind bound rest) ≡ word (relation_text kind) ∷ (word (integer bound) ∷ (stop ∷ marks_at Start rest))
  end-marks =
      marks-word (relation-word kind) (integer bound ++ (32 ∷ (59 ∷ (10 ∷ rest))))
      ∙ ap (λ (ms : List Mark). word (relation_text kind) ∷ ms)
      (marks-word (integer-word bound) (59 ∷ (10 ∷ rest)) ∙ ap (λ (ms : List Mark). word (integer bound) ∷ ms) (marks-stop rest))

  -- and its first word is not `min:`
  row_first : (ts : List Term) → statement (first_words (marks_at Inside (terms_text ts ++ end_bytes kind bound rest))) ≡ row (first_words (marks_at Inside (terms_text ts ++ end_bytes kind bound rest)))
  unfolding terms_text first_words
  row_first [] =
      ap (λ (ms : List Mark). statement (first_words ms)) end-marks
      ∙ not-min (relation_text kind) (integer bound ∷ []) (min-relation kind)
      ∙ sym (ap (λ (ms : List Mark). row (first_words ms)) end-marks)
  row_first (t ∷ ts) =
      let more = terms_text ts ++ end_bytes kind bound rest in
      let e : marks_at Inside ((term_text t ++ terms_text ts) ++ end_bytes kind bound rest) ≡ word (signed t.coef) ∷ (word (literal_text t.lit) ∷ marks_at Inside more) =
      ap (marks_at Inside) (append_assoc (term_text t) (terms_text ts) (end_bytes kind bound rest)) ∙ marks-term t more
      in
      ap (λ (ms : List Mark). statement (first_words ms)) e
      ∙ not-min (signed t.coef) (literal_text t.lit ∷ first_words (marks_at Inside more)) (min-signed t.coef)
      ∙ sym (ap (λ (ms : List Mark). row (first_words ms)) e)

  module _ (low : 2 ≤ kind) (high : kind ≤ 4) (small : nat_abs bound < 10 ^ max_digits) where
    end-says : row (relation_text kind ∷ (integer bound ∷ [])) ≡ Some (entry_of kind [] bound)
    end-says =
        row-bound (relation_text kind) (integer bound) [] (λ e. omega (arith, relation-text kind low high))
        ∙ ap₂ (λ (k : ℕ) (z : Option ℤ). row_end k z []) (relation-text kind low high) (number-integer bound small)

    row-says : (ts : List Term) → TermsOk ts → Says (marks_at Inside (terms_text ts ++ end_bytes kind bound rest)) (entry_of kind ts bound) (marks_at Start rest)
    unfolding first_words is_closed rest_after
    row-says ts h =
        let r = terms-reached ts (end_bytes kind bound rest) h in record {
          closed = r.closed_as ∙ ap is_closed end-marks;
          entry = row_first ts ∙ r.row_as ∙ ap (λ (ms : List Mark). add_terms ts (row (first_words ms))) end-marks ∙ ap (add_terms ts) end-says ∙ adds-last ts kind bound;
          after = r.rest_as ∙ ap rest_after end-marks;
        }

pub statement-row : (e : Entry) (rest : List ℕ) → RowOk e → TermsOk e.terms → Says (marks_at Start (statement_text e ++ rest)) e (marks_at Start rest)
statement-row e rest o h =
    subst (λ (ms : List Mark). Says ms e (marks_at Start rest))
    (sym (ap (marks_at Start) (row-bytes e rest o.kind_low) ∙ marks_line (terms_text e.terms ++ end_bytes e.kind e.bound rest) (row_line e.kind e.bound rest e.terms)))
    (row-says e.kind e.bound rest o.kind_low o.kind_high (omega (arith, o.bound)) e.terms h)
