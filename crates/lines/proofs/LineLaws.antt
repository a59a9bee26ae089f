-- Lines put part after part, and how long they can be. Assumes nothing.
use mathlib.Core.Path.{◌≡◌, ap, ◌∙◌}
use mathlib.Core.Bool.{Bool, true, false}
use mathlib.Core.List.{List, [], ◌∷◌, ◌++◌}
use Prim.Native.Nat.{ℕ, suc, ◌+◌, ◌*◌, ◌^◌, ◌≤◌, ◌<◌}
use native.Mathlib.Omega.{arith}
use lib.IntN.{ℤ, pos}
use mir.Syntax.{w64}
use mir.Val.{SFits, hbits}
use lib.Signed.{mag}
use lib.ListN.{length, length-append, get_or, drop}
use Rattle.std.proofs.Math.Seq.{drop-cons}
use Rattle.std.proofs.lemmas.List.{drop_all}
use Rattle.decimal.specs.Decimal.{decimal, integer}
use Rattle.writing.proofs.LengthLaws.{decimal-most, integer-most}
use Rattle.lines.specs.Lines.{end_text, front_line, values_text, point_line, refused_line, objectives_word, variables_word, values_word, model_word, statement_word}

-- ---- values_text

-- what is left to write from value k on: at each turn, and at the end
pub values-next : (vs : List ℤ) (k : ℕ) → k < length vs → values_text (drop k vs) ≡ (32 ∷ integer (get_or vs k (pos 0))) ++ values_text (drop (k + 1) vs)
unfolding values_text
values-next vs k h =
    let s : suc k ≡ k + 1 = omega arith in
    ap values_text (drop-cons vs k (pos 0) h) ∙ ap (λ (j : ℕ). (32 ∷ integer (get_or vs k (pos 0))) ++ values_text (drop j vs)) s

pub values-end : (vs : List ℤ) (k : ℕ) → length vs ≤ k → values_text (drop k vs) ≡ []
unfolding values_text
values-end vs k h = ap values_text (drop_all k vs h)

pub values-most : (vs : List ℤ) → length (values_text vs) ≤ length vs * 22
unfolding values_text
values-most [] = omega arith
values-most (v ∷ vs) = omega (arith, length-append (32 ∷ integer v) (values_text vs), integer-most v, values-most vs)

-- ---- lines

end-most : (cut : Bool) → length (end_text cut) ≤ 5
end-most true = omega arith
end-most false = omega arith

pub front-most : (points objectives n : ℕ) (cut : Bool) → length (front_line points objectives n cut) ≤ 256
front-most points objectives n cut =
    let e = end-most cut in
    let c = length-append (decimal n) (end_text cut) in
    let b = length-append (decimal objectives) (variables_word ++ (decimal n ++ end_text cut)) in
    let a = length-append (decimal points) (objectives_word ++ (decimal objectives ++ (variables_word ++ (decimal n ++ end_text cut)))) in
    omega (arith, decimal-most points, decimal-most objectives, decimal-most n, e, c, b, a)

pub point-most : (place : ℕ) (vs : List ℤ) (model : ℕ) → length vs ≤ 4 → length (point_line place vs model) ≤ 256
point-most place vs model h =
    let c = length-append (decimal model) (10 ∷ []) in
    let b = length-append (values_text vs) (model_word ++ (decimal model ++ (10 ∷ []))) in
    let a = length-append (decimal place) (values_word ++ (values_text vs ++ (model_word ++ (decimal model ++ (10 ∷ []))))) in
    omega (arith, decimal-most place, decimal-most model, values-most vs, c, b, a)

pub refused-most : (number statement : ℕ) → length (refused_line number statement) ≤ 256
refused-most number statement =
    let b = length-append (decimal statement) (10 ∷ []) in
    let a = length-append (decimal number) (statement_word ++ (decimal statement ++ (10 ∷ []))) in
    omega (arith, decimal-most number, decimal-most statement, b, a)

-- a value of a run fits its 64 bits
pub value-fits : {z : ℤ} → mag z < 2 ^ hbits w64 → SFits w64 z
value-fits h = record { sfits = h }
