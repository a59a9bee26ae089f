-- `writing::statements::put_statement` meets its contract: what stands before the terms, the terms, what stands after them, `;` and LF
-- are put one after the other. Assumes nothing.
use mathlib.Core.Path.{◌≡◌, ap}
use mathlib.Core.List.{List, [], ◌∷◌, ◌++◌}
use Prim.Native.Nat.{ℕ, ◌+◌, ◌-◌, ◌≤◌}
use lib.IntN.{ℤ}
use lib.ListN.{length}
use Rattle.std.proofs.Common.{rules}
use mir.Syntax.{w64}
use mir.Val.{to_z, of_z}
use Rattle.instance.specs.Tables.{term_at}
use Rattle.instance.specs.Meaning.{terms_at}
use Rattle.instance.specs.Rows.{Entry}
use Rattle.instance.specs.Structs.{entry_of}
use Rattle.writing.specs.Writing.{head_text, terms_text, bound_text, statement_text}
use Rattle.writing.proofs.RestLaws.{Put, put_as, Rest, rest_all, rest_put, rest-put-all}
use Rattle.writing.proofs.TextLaws.{terms-span}
use Rattle.writing.proofs.statements.put_statement.Goals as goal

-- what is left of a statement at the beginning and after each put; `ys` are the terms and z the bound as they are put
module _ (xs : List ℕ) (at : ℕ) (e : Entry) (h : at + length (statement_text e) ≤ length xs) where
  all : Rest xs at (statement_text e) xs at (statement_text e)
  all = rest_all xs at (statement_text e) h

  module _ {a : List ℕ} {i : ℕ} (p : Put xs at (head_text e.kind) a i) {ys : List ℕ} (s : ys ≡ terms_text e.terms) where
    after-head : Rest xs at (statement_text e) a i (terms_text e.terms ++ (bound_text e.kind e.bound ++ (59 ∷ (10 ∷ []))))
    after-head = rest_put (head_text e.kind) (terms_text e.terms ++ (bound_text e.kind e.bound ++ (59 ∷ (10 ∷ [])))) all p

    module _ {b : List ℕ} {j : ℕ} (q : Put a i ys b j) {z : ℤ} (f : z ≡ e.bound) where
      after-terms : Rest xs at (statement_text e) b j (bound_text e.kind e.bound ++ (59 ∷ (10 ∷ [])))
      after-terms = rest_put (terms_text e.terms) (bound_text e.kind e.bound ++ (59 ∷ (10 ∷ []))) after-head (put_as a i s q)

      after-bound : {d : List ℕ} {k : ℕ} → Put b j (bound_text e.kind z) d k → Rest xs at (statement_text e) d k (59 ∷ (10 ∷ []))
      after-bound r = rest_put (bound_text e.kind e.bound) (59 ∷ (10 ∷ [])) after-terms (put_as b j (ap (bound_text e.kind) f) r)

-- the terms from the first up to the end are as many as the entry counts
span : (ts : List ℤ) (first count : ℕ) → terms_text (terms_at ts first (first + count - first)) ≡ terms_text (terms_at ts first count)
span ts first count = terms-span (term_at ts) first count

pub returns-clause-left : goal.returns-clause-left
returns-clause-left c =
    let f : to_z w64 (of_z w64 c.args.e.bound) ≡ c.args.e.bound = Prim.search rules in
    let r =
    after-bound c.args.out.now c.args.at (entry_of c.args.terms.now c.args.e) c.requires.e_in_bounds
    (put_as c.args.out.now c.args.at c.head.ensures (c.put_bytes-head.ensures.left, c.put_bytes-head.ensures.next))
    (span c.args.terms.now c.args.e.first c.args.e.count)
    (c.put_terms-sum.ensures.left, c.put_terms-sum.ensures.next) f
    (c.put_bound-bound.ensures.left, c.put_bound-bound.ensures.next) in
    (rest-put-all r (c.put_bytes.ensures.left, c.put_bytes.ensures.next)).0
