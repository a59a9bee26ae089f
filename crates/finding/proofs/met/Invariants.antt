-- A row out of reach is met by no completion; in reach of a complete part is met.
-- Invariant: the rows so far are in reach.
use Prim.Native.Nat.{ℕ, ◌≤◌, ◌<◌}
use Rattle.charging.specs.Rows.{of}
use Rattle.charging.specs.Meets.{need, left}
use Rattle.finding.proofs.met.Given as goal

abbrev pub invariant-loop-h : goal.invariant-loop-h
invariant-loop-h l = (i : ℕ) → i < l.h → need l.rows i ≤ left l.rows (of l.p) i
