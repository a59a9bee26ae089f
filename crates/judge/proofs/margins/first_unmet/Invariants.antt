-- Each row passed holds. Invariant: the first unmet row of all is the first unmet row of those left.
use mathlib.Core.Path.{◌≡◌}
use Rattle.instance.specs.Lists.{tabulate}
use Rattle.instance.specs.Meaning.{entry_at}
use Rattle.judge.specs.Judging.{first_unmet}
use Rattle.judge.proofs.UnmetLaws.{unmet_left}
use Rattle.judge.proofs.margins.first_unmet.Given as goal

abbrev pub invariant-loop-k : goal.invariant-loop-k
invariant-loop-k l =
    first_unmet (tabulate (entry_at l.terms l.rows) l.first l.count) l.a ≡ unmet_left (entry_at l.terms l.rows) l.first l.count l.a l.k
