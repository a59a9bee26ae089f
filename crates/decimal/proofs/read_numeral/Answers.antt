use borrow.Author.Rules.{rules}
use mathlib.Core.Path.{◌≡◌, refl, sym, ap, ◌∙◌}
use mathlib.Core.Bool.{true}
use Prim.Native.Nat.{ℕ, ◌+◌, ◌*◌, ◌^◌, ◌≤◌, ◌<◌}
use native.Mathlib.Omega.{arith}
use lib.ListN.{get_or, drop}
use Rattle.decimal.specs.Decimal.{is_digit, digits_value}
use Rattle.decimal.proofs.NumeralLaws.{is_digit-from, is_digit-to, digits_value-step, value-step, value-small, numeral-empty, numeral-long, read_no, reader-stop, reader-go, reader-end}
use Rattle.decimal.proofs.read_numeral.Goals.{Else-not-is_digit}
use Rattle.decimal.proofs.read_numeral.Goals as goal

-- the byte of a turn that goes on
abbrev byte : Else-not-is_digit → ℕ
byte c =
    get_or c.args.word.now c.loop-b.b-index 0

-- it is a digit
digit : (c : Else-not-is_digit) → is_digit (byte c) ≡ true
digit c = sym c.is_digit.ensures ∙ c.if-not-is_digit.false

most : (c : Else-not-is_digit) → byte c ≤ 57
most c = is_digit-to (byte c) (digit c)

-- the digits before it are at most nine
small : (c : Else-not-is_digit) → c.loop-b.value < 10 ^ 9
small c =
    value-small c.loop-b.value c.loop-b.b-index 9 c.loop-b.invariant.0 (omega arith)

pub returns-then-is_empty : goal.returns-then-is_empty
returns-then-is_empty c =
    read_no c.args.word.now (numeral-empty c.args.word.now (search rules))

pub returns-then-word-gt-MAX_DIGITS : goal.returns-then-word-gt-MAX_DIGITS
returns-then-word-gt-MAX_DIGITS c =
    read_no c.args.word.now (numeral-long c.args.word.now c.if-word-gt-MAX_DIGITS.true)

pub loop-b-init : goal.loop-b-init
loop-b-init c = (omega arith, refl, refl)

pub returns-then-not-is_digit : goal.returns-then-not-is_digit
returns-then-not-is_digit c =
    read_no c.args.word.now (reader-stop c.args.word.now c.loop-b.b-index (omega arith) c.loop-b.invariant.2 (sym c.is_digit.ensures ∙ c.if-not-is_digit.true))

pub overflow_mul-value : goal.overflow_mul-value
overflow_mul-value c = omega (arith, small c)

pub digit_value-requires : goal.digit_value-requires
digit_value-requires c = is_digit-from (byte c) (digit c)

pub overflow_add-value : goal.overflow_add-value
overflow_add-value c = omega (arith, small (goal.at.overflow_add-value c).Else-not-is_digit, most (goal.at.overflow_add-value c).Else-not-is_digit, c.digit_value.ensures)

pub loop-b-preserved : goal.loop-b-preserved
loop-b-preserved c = (
  value-step c.loop-b.value c.loop-b.b-index c.digit_value.result c.loop-b.invariant.0 (omega (arith, most (goal.at.loop-b-preserved c).Else-not-is_digit)),
  ap (λ (b : ℕ). digits_value (c.loop-b.value * 10 + b) (drop (c.loop-b.b-index + 1) c.args.word.now)) c.digit_value.ensures
      ∙ sym (digits_value-step c.loop-b.value c.args.word.now c.loop-b.b-index (omega arith)) ∙ c.loop-b.invariant.1,
  reader-go c.args.word.now c.loop-b.b-index (omega arith) c.loop-b.invariant.2 (digit (goal.at.loop-b-preserved c).Else-not-is_digit),
)

pub returns : goal.returns
returns c =
    reader-end c.args.word.now c.loop-b.b-index c.loop-b.value (omega arith) (search rules) (omega arith) c.loop-b.invariant.1 c.loop-b.invariant.2
