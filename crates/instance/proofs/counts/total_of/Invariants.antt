-- The loop adds up the counts. Invariant: the entries passed are as they should be, and total is the sum of their counts.
use mathlib.Core.Path.{◌≡◌}
use Rattle.instance.specs.Tables.{terms_before}
use Rattle.instance.specs.Parts.{EntriesOk}
use Rattle.instance.proofs.counts.total_of.Given as goal

abbrev pub invariant-loop-k : goal.invariant-loop-k
invariant-loop-k l = EntriesOk l.rows l.k × (l.total ≡ terms_before l.rows l.k)
