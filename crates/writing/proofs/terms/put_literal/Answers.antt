-- `writing::terms::put_literal` meets its contract: `~x` or `x`, and then the digits of the variable, are the literal. Assumes nothing.
use mathlib.Core.Path.{sym}
use mathlib.Core.List.{[], ◌∷◌}
use Rattle.decimal.specs.Decimal.{decimal}
use Rattle.writing.specs.Writing.{literal_text}
use Rattle.writing.proofs.RestLaws.{Rest, rest_all, rest-as, rest_put, rest-put-all}
use Rattle.writing.proofs.TextLaws.{literal-neg, literal-pos}
use Rattle.writing.proofs.terms.put_literal.Goals.{After-put_byte-from, After-put_bytes-from, Else-lit-lt0, Then-lit-lt0}
use Rattle.writing.proofs.terms.put_literal.Goals as goal

-- what is to be written, below 0 and else, and what is left of it after the first bytes
neg-digits : (p : After-put_bytes-from) → Rest p.args.out.now p.args.at (literal_text p.args.lit) p.put_bytes-from.new.out p.put_bytes-from.result (decimal p.unsigned_abs-size.result)
neg-digits p =
    rest_put (126 ∷ (120 ∷ [])) (decimal p.unsigned_abs-size.result) (rest-as (sym (literal-neg p.args.lit p.ranges.lit p.unsigned_abs-size.result p.unsigned_abs-size.ensures.value p.if-lit-lt0.true)) (rest_all p.args.out.now p.args.at (literal_text p.args.lit) p.requires)) (p.put_bytes-from.ensures.left, p.put_bytes-from.ensures.next)

pos-digits : (p : After-put_byte-from) → Rest p.args.out.now p.args.at (literal_text p.args.lit) p.put_byte-from.new.out p.put_byte-from.result (decimal p.unsigned_abs-size.result)
pos-digits p =
    rest_put (120 ∷ []) (decimal p.unsigned_abs-size.result) (rest-as (sym (literal-pos p.args.lit p.ranges.lit p.unsigned_abs-size.result p.unsigned_abs-size.ensures.value p.if-lit-lt0.false)) (rest_all p.args.out.now p.args.at (literal_text p.args.lit) p.requires)) (p.put_byte-from.ensures.left, p.put_byte-from.ensures.next)

pub returns-then-lit-lt0-clause-left : goal.returns-then-lit-lt0-clause-left
returns-then-lit-lt0-clause-left c =
    (rest-put-all (neg-digits (goal.at.returns-then-lit-lt0-clause-left c).After-put_bytes-from) (c.put_decimal.ensures.left, c.put_decimal.ensures.next)).0

pub returns-clause-left : goal.returns-clause-left
returns-clause-left c =
    (rest-put-all (pos-digits (goal.at.returns-clause-left c).After-put_byte-from) (c.put_decimal-2.ensures.left, c.put_decimal-2.ensures.next)).0
