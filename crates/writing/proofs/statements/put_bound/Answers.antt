-- `writing::statements::put_bound` meets its contract: nothing for an objective; else relation, space, bound and space are put one after the other. Assumes nothing.
use mathlib.Core.Path.{◌≡◌, sym, ap}
use mathlib.Core.List.{List, [], ◌∷◌, ◌++◌}
use Prim.Native.Nat.{ℕ, ◌+◌, ◌≤◌}
use lib.IntN.{ℤ}
use lib.ListN.{length}
use mir.Facts.{to_z-of_z}
use mir.Syntax.{w64}
use Rattle.std.proofs.Common.{rules}
use Rattle.decimal.specs.Decimal.{integer}
use Rattle.instance.specs.Kinds.{number_of}
use Rattle.writing.specs.Writing.{relation_text, bound_text}
use Rattle.writing.proofs.RestLaws.{Put, put_as, put-none, Rest, rest_all, rest-as, rest_put, rest-put-all}
use Rattle.writing.proofs.TextLaws.{bound-objective, bound-row}
use Rattle.writing.proofs.statements.put_bound.Goals as goal

-- what is left of a row's bound at the beginning and after each put; z is the bound as it is put
module _ (xs : List ℕ) (at kind : ℕ) (bound : ℤ) (h : at + length (bound_text kind bound) ≤ length xs) (n : kind ≡ 1 → ⊥) where
  all : Rest xs at (bound_text kind bound) xs at (relation_text kind ++ (32 ∷ (integer bound ++ (32 ∷ []))))
  all = rest-as (sym (bound-row bound n)) (rest_all xs at (bound_text kind bound) h)

  module _ {a : List ℕ} {i : ℕ} (p : Put xs at (relation_text kind) a i) where
    after-relation : Rest xs at (bound_text kind bound) a i (32 ∷ (integer bound ++ (32 ∷ [])))
    after-relation = rest_put (relation_text kind) (32 ∷ (integer bound ++ (32 ∷ []))) all p

    module _ {b : List ℕ} {j : ℕ} (q : Put a i (32 ∷ []) b j) {z : ℤ} (e : z ≡ bound) where
      after-space : Rest xs at (bound_text kind bound) b j (integer bound ++ (32 ∷ []))
      after-space = rest_put (32 ∷ []) (integer bound ++ (32 ∷ [])) after-relation q

      after-digits : {d : List ℕ} {k : ℕ} → Put b j (integer z) d k → Rest xs at (bound_text kind bound) d k (32 ∷ [])
      after-digits r = rest_put (integer bound) (32 ∷ []) after-space (put_as b j (ap integer e) r)

pub returns-then-matches-clause-left : goal.returns-then-matches-clause-left
returns-then-matches-clause-left c =
    let e : number_of c.args.kind ≡ 1 = Prim.search rules in
    (put-none c.args.out.now c.args.at (bound-objective c.args.bound e)).0

pub returns-clause-left : goal.returns-clause-left
returns-clause-left c =
    let n : number_of c.args.kind ≡ 1 → ⊥ = Prim.search rules in
    let r =
    after-digits c.args.out.now c.args.at (number_of c.args.kind) c.args.bound c.requires n
    (put_as c.args.out.now c.args.at c.relation.ensures (c.put_bytes-relation.ensures.left, c.put_bytes-relation.ensures.next))
    (c.put_byte-gap.ensures.left, c.put_byte-gap.ensures.next)
    (to_z-of_z {w = w64} c.ranges.bound) (c.put_integer-digits.ensures.left, c.put_integer-digits.ensures.next) in
    (rest-put-all r (c.put_byte.ensures.left, c.put_byte.ensures.next)).0
