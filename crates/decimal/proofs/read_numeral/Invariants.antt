-- `decimal::read_numeral` meets its contract: a word of another length, or with another byte, is refused; any other is read to its end.
-- The loop's invariant: the bytes before the one in hand are digits, `value` is what they stand for, and what is left gives the same answer from here
-- as the word from its start. Assumes nothing.
use mathlib.Core.Path.{◌≡◌}
use Prim.Native.Nat.{◌^◌, ◌<◌}
use lib.ListN.{drop}
use Rattle.decimal.specs.Decimal.{all_digits, digits_value}
use Rattle.decimal.proofs.read_numeral.Given as goal

abbrev pub invariant-loop-b : goal.invariant-loop-b
invariant-loop-b l =
    (l.value < 10 ^ l.b-index)
    × (digits_value l.value (drop l.b-index l.word) ≡ digits_value 0 l.word)
    × (all_digits (drop l.b-index l.word) ≡ all_digits l.word)
