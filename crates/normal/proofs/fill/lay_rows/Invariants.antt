-- The loop's invariant (Laying): the half rows of the first k rows are laid out, each row taking two half rows and each term two places at most.
use Rattle.normal.proofs.LayLaws.{Laying}
use Rattle.normal.proofs.fill.lay_rows.Given as goal

abbrev pub invariant-loop-k : goal.invariant-loop-k
invariant-loop-k l = Laying l.terms l.rows l.first l.k l.initial.starts l.starts l.initial.laid l.laid l.initial.needs l.needs l.at.halves l.at.used
