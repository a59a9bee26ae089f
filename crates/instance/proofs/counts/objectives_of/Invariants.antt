-- The loop counts the objectives that come first. Invariant: all entries passed are objectives.
use Rattle.instance.specs.Limits.{max_entries}
use Rattle.instance.specs.Tables.{is_objective}
use Rattle.instance.proofs.ListLaws.{Passed}
use Rattle.instance.proofs.counts.objectives_of.Given as goal

abbrev pub invariant-loop-k : goal.invariant-loop-k
invariant-loop-k l = Passed (is_objective l.rows) 0 max_entries l.k
