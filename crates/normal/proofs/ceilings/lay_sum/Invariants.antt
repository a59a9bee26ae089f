-- Invariant (Heap): what meets the rows has at most the slack of the sides; the terms added are those of the rows so far, at most.
use Prim.Native.Nat.{◌+◌, ◌-◌, ◌≤◌}
use lib.ListN.{get_or}
use Rattle.instance.specs.Limits.{max_terms}
use Rattle.normal.specs.Ceilings.{Heap}
use Rattle.normal.proofs.ceilings.lay_sum.Given as goal

abbrev pub invariant-loop-h : goal.invariant-loop-h
invariant-loop-h l =
    (l.summed ≤ l.h) × (get_or l.half.rows.starts.now 0 0 ≤ get_or l.half.rows.starts.now l.h 0) × (get_or l.half.rows.starts.now l.h 0 - get_or l.half.rows.starts.now 0 0 ≤ max_terms + max_terms)
    × Heap l.half.rows l.sides l.slack (get_or l.half.rows.starts.now l.h 0 - get_or l.half.rows.starts.now 0 0)
