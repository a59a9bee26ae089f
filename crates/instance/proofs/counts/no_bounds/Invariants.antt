-- Each bound is compared with 0. Invariant: the bounds passed are 0.
use Rattle.instance.specs.Parts.{NoBounds}
use Rattle.instance.proofs.counts.no_bounds.Given as goal

abbrev pub invariant-loop-k : goal.invariant-loop-k
invariant-loop-k l = NoBounds l.rows l.k
