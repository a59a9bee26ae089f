-- The loop counts the rows from entry `first` on. Invariant: all entries passed are rows.
use Prim.Native.Nat.{◌-◌}
use Rattle.instance.specs.Limits.{max_entries}
use Rattle.instance.specs.Tables.{is_row}
use Rattle.instance.proofs.ListLaws.{Passed}
use Rattle.instance.proofs.counts.rows_of.Given as goal

abbrev pub invariant-loop-n : goal.invariant-loop-n
invariant-loop-n l = Passed (is_row l.rows) l.first (max_entries - l.first) l.n
