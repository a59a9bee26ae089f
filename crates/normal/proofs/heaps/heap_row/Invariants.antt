-- Invariant (Piled): the sides have what the terms so far withhold added.
use Rattle.normal.specs.Ceilings.{Piled}
use Rattle.normal.proofs.heaps.heap_row.Given as goal

abbrev pub invariant-loop-t : goal.invariant-loop-t
invariant-loop-t l = Piled l.half.rows.n l.terms l.t-index l.initial.sides l.sides
