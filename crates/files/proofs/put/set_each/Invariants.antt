-- Each point goes to the next place. Invariant: the points passed stand in theirs, the rest is as found.
use Rattle.files.specs.Put.{PointsPut}
use Rattle.files.proofs.put.set_each.Given as goal

abbrev pub invariant-loop-j : goal.invariant-loop-j
invariant-loop-j l = PointsPut l.initial.block l.first l.j l.list.values.now l.list.models.now l.block
