-- `writing::terms::put_term` meets its contract: coefficient, space, literal and space are put one after the other. Assumes nothing.
use mathlib.Core.Path.{◌≡◌, ap}
use mathlib.Core.List.{List, [], ◌∷◌, ◌++◌}
use Prim.Native.Nat.{ℕ, ◌+◌, ◌≤◌}
use Rattle.std.proofs.Common.{rules}
use lib.IntN.{ℤ}
use lib.ListN.{length}
use mir.Syntax.{w64}
use mir.Val.{to_z, of_z}
use Rattle.decimal.specs.Decimal.{signed}
use Rattle.writing.specs.Writing.{literal_text}
use Rattle.writing.proofs.RestLaws.{Put, put_as, Rest, rest_all, rest_put, rest-put-all}
use Rattle.writing.proofs.terms.put_term.Goals as goal

-- a term's text
abbrev text : ℤ → ℤ → List ℕ
text coef lit = signed coef ++ (32 ∷ (literal_text lit ++ (32 ∷ [])))

-- what is left of the text at the beginning and after each put; z and y are the numbers as they are put
module _ (xs : List ℕ) (at : ℕ) (coef lit : ℤ) (h : at + length (text coef lit) ≤ length xs) {z : ℤ} (e : z ≡ coef) where
  all : Rest xs at (text coef lit) xs at (text coef lit)
  all = rest_all xs at (text coef lit) h

  module _ {a : List ℕ} {i : ℕ} (p : Put xs at (signed z) a i) where
    after-coef : Rest xs at (text coef lit) a i (32 ∷ (literal_text lit ++ (32 ∷ [])))
    after-coef = rest_put (signed coef) (32 ∷ (literal_text lit ++ (32 ∷ []))) all (put_as xs at (ap signed e) p)

    module _ {b : List ℕ} {j : ℕ} (q : Put a i (32 ∷ []) b j) {y : ℤ} (f : y ≡ lit) where
      after-space : Rest xs at (text coef lit) b j (literal_text lit ++ (32 ∷ []))
      after-space = rest_put (32 ∷ []) (literal_text lit ++ (32 ∷ [])) after-coef q

      after-lit : {d : List ℕ} {k : ℕ} → Put b j (literal_text y) d k → Rest xs at (text coef lit) d k (32 ∷ [])
      after-lit r = rest_put (literal_text lit) (32 ∷ []) after-space (put_as b j (ap literal_text f) r)

pub returns-clause-left : goal.returns-clause-left
returns-clause-left c =
    let e : to_z w64 (of_z w64 c.from.result) ≡ c.args.t.coef = Prim.search rules in
    let f : to_z w64 (of_z w64 c.from-2.result) ≡ c.args.t.lit = Prim.search rules in
    let r =
    after-lit c.args.out.now c.args.at c.args.t.coef c.args.t.lit c.requires e
    (c.put_signed-coef.ensures.left, c.put_signed-coef.ensures.next) (c.put_byte-gap.ensures.left, c.put_byte-gap.ensures.next)
    f (c.put_literal-lit.ensures.left, c.put_literal-lit.ensures.next) in
    (rest-put-all r (c.put_byte.ensures.left, c.put_byte.ensures.next)).0
