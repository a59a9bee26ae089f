-- The parts of the line are put one after the other; what is left of it shrinks by each.
use mathlib.Core.List.{List, [], ◌∷◌, ◌++◌}
use Prim.Native.Nat.{ℕ, ◌≤◌}
use native.Mathlib.Omega.{arith}
use lib.IntN.{ℤ}
use lib.ListN.{length}
use Rattle.decimal.specs.Decimal.{decimal}
use Rattle.writing.proofs.RestLaws.{Put, Rest, rest_all, rest-room-all, rest-put-all, rest-room, rest_put}
use Rattle.lines.specs.Lines.{point_word, values_word, model_word, values_text, point_line}
use Rattle.lines.proofs.LineLaws.{point-most}
use Rattle.lines.proofs.put_point.Goals as goal

-- what is left of the line at the beginning, and after each part
module _ (xs : List ℕ) (place : ℕ) (values : List ℤ) (model : ℕ) (h : 256 ≤ length xs) (few : length values ≤ 4) where
  all : Rest xs 0 (point_line place values model) xs 0 (point_line place values model)
  all = rest_all xs 0 (point_line place values model) (omega (arith, point-most place values model few, h))

  module _ {a : List ℕ} {i : ℕ} (p : Put xs 0 (point_word ++ decimal place) a i) where
    after-place : Rest xs 0 (point_line place values model) a i (values_word ++ (values_text values ++ (model_word ++ (decimal model ++ (10 ∷ [])))))
    after-place =
        rest_put (point_word ++ decimal place) (values_word ++ (values_text values ++ (model_word ++ (decimal model ++ (10 ∷ []))))) all p

    module _ {b : List ℕ} {j : ℕ} (q : Put a i values_word b j) where
      after-word : Rest xs 0 (point_line place values model) b j (values_text values ++ (model_word ++ (decimal model ++ (10 ∷ []))))
      after-word = rest_put values_word (values_text values ++ (model_word ++ (decimal model ++ (10 ∷ [])))) after-place q

      module _ {d : List ℕ} {k : ℕ} (r : Put b j (values_text values) d k) where
        after-values : Rest xs 0 (point_line place values model) d k (model_word ++ (decimal model ++ (10 ∷ [])))
        after-values = rest_put (values_text values) (model_word ++ (decimal model ++ (10 ∷ []))) after-word r

        after-model : {e : List ℕ} {l : ℕ} → Put d k (model_word ++ decimal model) e l → Rest xs 0 (point_line place values model) e l (10 ∷ [])
        after-model s = rest_put (model_word ++ decimal model) (10 ∷ []) after-values s

pub put_word-a-requires : goal.put_word-a-requires
put_word-a-requires c =
    rest-room (point_word ++ decimal c.args.place) (values_word ++ (values_text c.args.values.now ++ (model_word ++ (decimal c.args.model ++ (10 ∷ [])))))
    (all c.args.out.now c.args.place c.args.values.now c.args.model c.requires.in_bounds c.requires.few)

pub put_bytes-b-requires : goal.put_bytes-b-requires
put_bytes-b-requires c =
    rest-room values_word (values_text c.args.values.now ++ (model_word ++ (decimal c.args.model ++ (10 ∷ []))))
    (after-place c.args.out.now c.args.place c.args.values.now c.args.model c.requires.in_bounds c.requires.few
    (c.put_word-a.ensures.left, c.put_word-a.ensures.next))

pub put_values-c-requires : goal.put_values-c-requires
put_values-c-requires c =
    rest-room (values_text c.args.values.now) (model_word ++ (decimal c.args.model ++ (10 ∷ [])))
    (after-word c.args.out.now c.args.place c.args.values.now c.args.model c.requires.in_bounds c.requires.few
    (c.put_word-a.ensures.left, c.put_word-a.ensures.next)
    (c.put_bytes-b.ensures.left, c.put_bytes-b.ensures.next))

pub put_word-d-requires : goal.put_word-d-requires
put_word-d-requires c =
    rest-room (model_word ++ decimal c.args.model) (10 ∷ [])
    (after-values c.args.out.now c.args.place c.args.values.now c.args.model c.requires.in_bounds c.requires.few
    (c.put_word-a.ensures.left, c.put_word-a.ensures.next)
    (c.put_bytes-b.ensures.left, c.put_bytes-b.ensures.next)
    (c.put_values-c.ensures.left, c.put_values-c.ensures.next))

pub put_byte-requires : goal.put_byte-requires
put_byte-requires c =
    rest-room-all
    (after-model c.args.out.now c.args.place c.args.values.now c.args.model c.requires.in_bounds c.requires.few
    (c.put_word-a.ensures.left, c.put_word-a.ensures.next)
    (c.put_bytes-b.ensures.left, c.put_bytes-b.ensures.next)
    (c.put_values-c.ensures.left, c.put_values-c.ensures.next)
    (c.put_word-d.ensures.left, c.put_word-d.ensures.next))

pub returns : goal.returns
returns c =
    let r =
    after-model c.args.out.now c.args.place c.args.values.now c.args.model c.requires.in_bounds c.requires.few
    (c.put_word-a.ensures.left, c.put_word-a.ensures.next)
    (c.put_bytes-b.ensures.left, c.put_bytes-b.ensures.next)
    (c.put_values-c.ensures.left, c.put_values-c.ensures.next)
    (c.put_word-d.ensures.left, c.put_word-d.ensures.next) in
    let p = rest-put-all r (c.put_byte.ensures.left, c.put_byte.ensures.next) in
    record { left = p.0; next = omega (arith, p.1); small = omega (arith, p.1, point-most c.args.place c.args.values.now c.args.model c.requires.few) }
