-- Each term is in range and they are at most 4,096, so no sum of some of them leaves 64 bits. Invariant: total is the sum of the k terms passed.
use mathlib.Core.Path.{◌≡◌}
use Rattle.instance.specs.Terms.{sum}
use Rattle.instance.specs.Meaning.{terms_at}
use Rattle.judge.proofs.sums.sum_of.Given as goal

abbrev pub invariant-loop-k : goal.invariant-loop-k
invariant-loop-k l = l.total ≡ sum (terms_at l.terms l.first l.k) l.a
