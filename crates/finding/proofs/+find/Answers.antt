use Rattle.forcing.specs.Goals.{Wanted}
use Rattle.finding.specs.Finding.{Finds}
use Rattle.finding.proofs.FindLaws.{find-leaf, find-two}
use Rattle.finding.proofs.+find.Goals as goal

pub returns-in_default-v : goal.returns-in_default-v
returns-in_default-v t c =
    let g = c.args.goal.now in
    rw (c.then_some.ensures, Finds) (find-leaf g.rows.n (Wanted g) c.args.p c.in_ok-q.q c.in_ok-q.ensures c.in_default-v.ensures c.wanted.result c.wanted.ensures)

pub returns : goal.returns
returns t c =
    let g = c.args.goal.now in
    find-two g.rows.n (Wanted g) c.args.p c.in_ok-q.q c.in_ok-q.ensures c.in_Some-v.v c.cheaper-b.result c.put.result c.in_Some-v.ensures.1 c.put.ensures
    c.put-2.result c.find-2.result c.in_Some-v.ensures.0 c.cheaper-b.ensures c.put-2.ensures c.in_default.ensures c.find-2.ensures
