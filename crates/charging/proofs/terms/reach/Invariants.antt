-- The sum over the first terms is the span of as many; each term is at most 2 ^ 34, so nothing overflows.
-- Invariant: sum is that span.
use mathlib.Core.Path.{◌≡◌}
use Rattle.charging.specs.Rows.{span, term, of}
use Rattle.charging.proofs.terms.reach.Given as goal

abbrev pub invariant-loop-term : goal.invariant-loop-term
invariant-loop-term l = l.sum ≡ span (term l.terms (of l.p)) 0 l.term-index
