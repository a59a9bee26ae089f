use borrow.Author.Rules.{rules}
use Rattle.instance.proofs.SumLaws.{highest-none, highest-more}
use Rattle.instance.proofs.terms.highest_of.Goals as goal

pub loop-k-init : goal.loop-k-init
loop-k-init c = search (rules, highest-none)

pub loop-k-preserved : goal.loop-k-preserved
loop-k-preserved c = search (rules, highest-more)
