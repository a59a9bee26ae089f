-- The sum grows by what each term gives without a charge; once it is enough, the rest can only add to it.
-- Invariant: sum is the span of the terms so far.
use mathlib.Core.Path.{◌≡◌}
use Rattle.charging.specs.Rows.{span, of, spare_at}
use Rattle.charging.proofs.terms.covered.Given as goal

abbrev pub invariant-loop-term : goal.invariant-loop-term
invariant-loop-term l = l.sum ≡ span (spare_at l.terms (of l.p) l.costs l.res) 0 l.term-index
