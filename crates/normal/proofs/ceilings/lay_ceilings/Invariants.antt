-- Invariant (CeilingAll): the first ceilings are laid out.
use Prim.Native.Nat.{◌≤◌}
use Rattle.normal.specs.Ceilings.{CeilingAll}
use Rattle.normal.proofs.ceilings.lay_ceilings.Given as goal

abbrev pub invariant-loop-h : goal.invariant-loop-h
invariant-loop-h l = (l.count ≤ 4) × CeilingAll l.half.rows l.count l.costs l.caps
