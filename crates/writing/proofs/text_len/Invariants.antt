-- `writing::text_len` meets its contract: each turn adds the length of one statement.
-- The loop's invariant: the sum and the length of the statements that are left are together that of the text. The measure is the number of
-- entries left. Assumes nothing.
use mathlib.Core.Path.{◌≡◌}
use Prim.Native.Nat.{◌+◌, ◌-◌}
use lib.ListN.{length}
use Rattle.instance.specs.Lists.{tabulate}
use Rattle.instance.specs.Meaning.{entry_at}
use Rattle.writing.specs.Answers.{text_of}
use Rattle.writing.specs.Writing.{statements_text}
use Rattle.writing.proofs.text_len.Given as goal

abbrev pub invariant-loop-k : goal.invariant-loop-k
invariant-loop-k l =
    (l.sum + length (statements_text (tabulate (entry_at l.terms l.rows) l.k (l.n - l.k))) ≡ length (text_of l.terms l.rows))
