-- The parts of the line are put one after the other; what is left of it shrinks by each.
use mathlib.Core.List.{List, [], ◌∷◌, ◌++◌}
use Prim.Native.Nat.{ℕ, ◌≤◌}
use native.Mathlib.Omega.{arith}
use lib.ListN.{length}
use Rattle.decimal.specs.Decimal.{decimal}
use Rattle.writing.proofs.RestLaws.{Put, Rest, rest_all, rest-room-all, rest-put-all, rest-room, rest_put}
use Rattle.lines.specs.Lines.{refused_word, statement_word, refused_line}
use Rattle.lines.proofs.LineLaws.{refused-most}
use Rattle.lines.proofs.put_refused.Goals as goal

-- what is left of the line at the beginning, and after each number
module _ (xs : List ℕ) (number statement : ℕ) (h : 256 ≤ length xs) where
  all : Rest xs 0 (refused_line number statement) xs 0 (refused_line number statement)
  all = rest_all xs 0 (refused_line number statement) (omega (arith, refused-most number statement, h))

  module _ {a : List ℕ} {i : ℕ} (p : Put xs 0 (refused_word ++ decimal number) a i) where
    after-number : Rest xs 0 (refused_line number statement) a i (statement_word ++ (decimal statement ++ (10 ∷ [])))
    after-number = rest_put (refused_word ++ decimal number) (statement_word ++ (decimal statement ++ (10 ∷ []))) all p

    after-statement : {b : List ℕ} {j : ℕ} → Put a i (statement_word ++ decimal statement) b j → Rest xs 0 (refused_line number statement) b j (10 ∷ [])
    after-statement q = rest_put (statement_word ++ decimal statement) (10 ∷ []) after-number q

pub put_word-a-requires : goal.put_word-a-requires
put_word-a-requires c =
    rest-room (refused_word ++ decimal c.args.number) (statement_word ++ (decimal c.args.statement ++ (10 ∷ [])))
    (all c.args.out.now c.args.number c.args.statement c.requires)

pub put_word-b-requires : goal.put_word-b-requires
put_word-b-requires c =
    rest-room (statement_word ++ decimal c.args.statement) (10 ∷ [])
    (after-number c.args.out.now c.args.number c.args.statement c.requires (c.put_word-a.ensures.left, c.put_word-a.ensures.next))

pub put_byte-requires : goal.put_byte-requires
put_byte-requires c =
    rest-room-all
    (after-statement c.args.out.now c.args.number c.args.statement c.requires
    (c.put_word-a.ensures.left, c.put_word-a.ensures.next)
    (c.put_word-b.ensures.left, c.put_word-b.ensures.next))

pub returns : goal.returns
returns c =
    let r =
    after-statement c.args.out.now c.args.number c.args.statement c.requires
    (c.put_word-a.ensures.left, c.put_word-a.ensures.next)
    (c.put_word-b.ensures.left, c.put_word-b.ensures.next) in
    let p = rest-put-all r (c.put_byte.ensures.left, c.put_byte.ensures.next) in
    record { left = p.0; next = omega (arith, p.1); small = omega (arith, p.1, refused-most c.args.number c.args.statement) }
