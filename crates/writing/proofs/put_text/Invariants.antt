-- `writing::put_text` meets its contract: each turn puts one statement.
-- The loop's invariant: to write the statements that are left now gives the whole text.
-- Assumes nothing.
use Prim.Native.Nat.{◌-◌}
use Rattle.instance.specs.Lists.{tabulate}
use Rattle.instance.specs.Meaning.{entry_at}
use Rattle.writing.specs.Answers.{text_of}
use Rattle.writing.specs.Writing.{statements_text}
use Rattle.writing.proofs.RestLaws.{Rest}
use Rattle.writing.proofs.put_text.Given as goal

abbrev pub invariant-loop-k : goal.invariant-loop-k
invariant-loop-k l =
    Rest l.initial.out 0 (text_of l.terms l.rows) l.out l.at (statements_text (tabulate (entry_at l.terms l.rows) l.k (l.n - l.k)))
