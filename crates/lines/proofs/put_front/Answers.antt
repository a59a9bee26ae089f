-- The parts of the line are put one after the other; what is left of it shrinks by each.
use mathlib.Core.Bool.{Bool}
use mathlib.Core.List.{List, ◌++◌}
use Prim.Native.Nat.{ℕ, ◌≤◌}
use native.Mathlib.Omega.{arith}
use lib.ListN.{length}
use Rattle.decimal.specs.Decimal.{decimal}
use Rattle.writing.proofs.RestLaws.{Put, Rest, rest_all, rest-room-all, rest-put-all, rest-room, rest_put}
use Rattle.lines.specs.Lines.{front_word, objectives_word, variables_word, end_text, front_line}
use Rattle.lines.proofs.LineLaws.{front-most}
use Rattle.lines.proofs.put_front.Goals as goal

-- what is left of the line at the beginning, and after each number
module _ (xs : List ℕ) (points objectives n : ℕ) (cut : Bool) (h : 256 ≤ length xs) where
  all : Rest xs 0 (front_line points objectives n cut) xs 0 (front_line points objectives n cut)
  all = rest_all xs 0 (front_line points objectives n cut) (omega (arith, front-most points objectives n cut, h))

  module _ {a : List ℕ} {i : ℕ} (p : Put xs 0 (front_word ++ decimal points) a i) where
    after-points : Rest xs 0 (front_line points objectives n cut) a i (objectives_word ++ (decimal objectives ++ (variables_word ++ (decimal n ++ end_text cut))))
    after-points =
        rest_put (front_word ++ decimal points) (objectives_word ++ (decimal objectives ++ (variables_word ++ (decimal n ++ end_text cut)))) all p

    module _ {b : List ℕ} {j : ℕ} (q : Put a i (objectives_word ++ decimal objectives) b j) where
      after-objectives : Rest xs 0 (front_line points objectives n cut) b j (variables_word ++ (decimal n ++ end_text cut))
      after-objectives = rest_put (objectives_word ++ decimal objectives) (variables_word ++ (decimal n ++ end_text cut)) after-points q

      after-variables : {d : List ℕ} {k : ℕ} → Put b j (variables_word ++ decimal n) d k → Rest xs 0 (front_line points objectives n cut) d k (end_text cut)
      after-variables r = rest_put (variables_word ++ decimal n) (end_text cut) after-objectives r

pub put_word-a-requires : goal.put_word-a-requires
put_word-a-requires c =
    rest-room (front_word ++ decimal c.args.points) (objectives_word ++ (decimal c.args.objectives ++ (variables_word ++ (decimal c.args.n ++ end_text c.args.cut))))
    (all c.args.out.now c.args.points c.args.objectives c.args.n c.args.cut c.requires)

pub put_word-b-requires : goal.put_word-b-requires
put_word-b-requires c =
    rest-room (objectives_word ++ decimal c.args.objectives) (variables_word ++ (decimal c.args.n ++ end_text c.args.cut))
    (after-points c.args.out.now c.args.points c.args.objectives c.args.n c.args.cut c.requires (c.put_word-a.ensures.left, c.put_word-a.ensures.next))

pub put_word-c-requires : goal.put_word-c-requires
put_word-c-requires c =
    rest-room (variables_word ++ decimal c.args.n) (end_text c.args.cut)
    (after-objectives c.args.out.now c.args.points c.args.objectives c.args.n c.args.cut c.requires
    (c.put_word-a.ensures.left, c.put_word-a.ensures.next)
    (c.put_word-b.ensures.left, c.put_word-b.ensures.next))

pub put_end-requires : goal.put_end-requires
put_end-requires c =
    rest-room-all
    (after-variables c.args.out.now c.args.points c.args.objectives c.args.n c.args.cut c.requires
    (c.put_word-a.ensures.left, c.put_word-a.ensures.next)
    (c.put_word-b.ensures.left, c.put_word-b.ensures.next)
    (c.put_word-c.ensures.left, c.put_word-c.ensures.next))

pub returns : goal.returns
returns c =
    let r =
    after-variables c.args.out.now c.args.points c.args.objectives c.args.n c.args.cut c.requires
    (c.put_word-a.ensures.left, c.put_word-a.ensures.next)
    (c.put_word-b.ensures.left, c.put_word-b.ensures.next)
    (c.put_word-c.ensures.left, c.put_word-c.ensures.next) in
    let p = rest-put-all r (c.put_end.ensures.left, c.put_end.ensures.next) in
    record { left = p.0; next = omega (arith, p.1); small = omega (arith, p.1, front-most c.args.points c.args.objectives c.args.n c.args.cut) }
