-- Invariant: from the byte in hand on, at the place p, the text has the marks that it has from the start. A byte that begins nothing adds no mark (skip_step); one
-- that begins something ends the loop, where the place counts no more (skip_stop).
use mathlib.Core.Path.{◌≡◌}
use lib.ListN.{drop}
use Rattle.words.specs.Tokens.{marks_at}
use Rattle.words.proofs.tokens.blanks_end.Given as goal

abbrev pub invariant-loop-i : goal.invariant-loop-i
invariant-loop-i l = marks_at l.initial.p l.text ≡ marks_at l.p (drop l.i l.text)
