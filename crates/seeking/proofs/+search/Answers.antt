use Rattle.std.proofs.Common.{rules}
use Rattle.std.specs.Prelude.{Some, None}
use Rattle.finding.proofs.FindLaws.{whole_part}
use Rattle.seeking.proofs.SeekLaws.{gathers-stays, gathers-lead, gathers-two, cuts-back}
use Rattle.seeking.proofs.+search.Goals as goal

pub returns-in_default : goal.returns-in_default
returns-in_default g t c =
    let a = c.args in
    let held = c.requires.held in
    gathers-stays a.problem.now a.listed.now a.p a.points.now a.stock held
    (cuts-back a.problem.now a.listed.now a.points.now a.stock a.p None held.room c.in_default.ensures)

pub leaf-requires : goal.leaf-requires
leaf-requires g t c =
    let whole = whole_part c.args.problem.now.rows.n c.in-Some.q c.in_default-v.ensures in
    (search rules, (search rules, (search rules, ((whole, c.in-Some.ensures.good), search rules))))

pub returns-in_default-v : goal.returns-in_default-v
returns-in_default-v g t c =
    let a = c.args in
    let lead = cuts-back a.problem.now a.listed.now a.points.now a.stock a.p (Some c.in-Some.q) c.requires.held.room c.in-Some.ensures in
    gathers-lead a.problem.now a.listed.now a.p a.points.now a.stock c.in-Some.q lead _ _ c.leaf.ensures

pub returns : goal.returns
returns g t c =
    let a = c.args in
    let lead = cuts-back a.problem.now a.listed.now a.points.now a.stock a.p (Some c.in-Some.q) c.requires.held.room c.in-Some.ensures in
    gathers-two a.problem.now a.listed.now a.p a.points.now a.stock c.in-Some.q lead c.in_Some-v.v c.cheaper-b.result c.put.result c.put-2.result
    _ c.search-first.result _ c.search.result c.in_Some-v.ensures.0 c.cheaper-b.ensures c.put.ensures c.put-2.ensures c.search-first.ensures c.search.ensures
