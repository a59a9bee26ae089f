-- The chosen trade has the least vector; the smallest assignment within it has exactly that vector (next-some).
use Rattle.advancing.proofs.NextLaws.{next-none, next-some}
use Rattle.advancing.proofs.next_point.Goals as goal

pub returns-in_default-clause-next : goal.returns-in_default-clause-next
returns-in_default-clause-next g c =
    next-none c.args.problem.now c.args.listed.now _ c.choose-next.result.stock (rw c.in_default.is at c.choose-next.ensures)

pub returns-clause-next : goal.returns-clause-next
returns-clause-next g c =
    next-some c.args.problem.now c.args.listed.now _ c.choose-next.result.stock c.in-Some.trade (rw c.in-Some.is at c.choose-next.ensures)
    c.witness-smallest.result c.witness-smallest.ensures
