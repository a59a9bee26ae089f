-- The loop tests each term and keeps the highest variable. Invariant: the terms passed are in range, and top is the highest variable
-- that they name.
use mathlib.Core.Path.{◌≡◌}
use Rattle.instance.specs.Terms.{highest}
use Rattle.instance.specs.Meaning.{terms_at}
use Rattle.instance.specs.Parts.{TermsOk}
use Rattle.instance.proofs.terms.highest_of.Given as goal

abbrev pub invariant-loop-k : goal.invariant-loop-k
invariant-loop-k l = TermsOk l.terms l.k × (l.top ≡ highest (terms_at l.terms 0 l.k))
