-- Each step lowers m to at most what is left to charge at one more term that can be charged.
-- Invariant: m is at most that at each of the terms so far.
use Prim.Native.Nat.{◌≤◌, ◌^◌}
use Rattle.charging.specs.Rows.{Least}
use Rattle.charging.proofs.terms.least.Given as goal

abbrev pub invariant-loop-term : goal.invariant-loop-term
invariant-loop-term l = (l.m ≤ 2 ^ 34) × Least l.terms l.costs l.res l.term-index l.m
