-- Each turn puts one value. The loop's invariant: to write the values that are left now gives what was asked.
use lib.ListN.{drop}
use Rattle.writing.proofs.RestLaws.{Rest}
use Rattle.lines.specs.Lines.{values_text}
use Rattle.lines.proofs.put_values.Given as goal

abbrev pub invariant-loop-v : goal.invariant-loop-v
invariant-loop-v l = Rest l.initial.out l.at (values_text l.values) l.out l.place (values_text (drop l.v-index l.values))
