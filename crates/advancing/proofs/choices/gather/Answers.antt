-- From nothing set, all that is fit is accounted for, and all that is gathered is fresh.
use native.Mathlib.Omega.{arith}
use Prim.Native.Nat.{◌<◌}
use Rattle.std.proofs.lemmas.List.{get_or_read}
use Rattle.capping.specs.Caps.{no_trade}
use Rattle.seeking.proofs.StockLaws.{front_length, least-front}
use Rattle.advancing.proofs.NextLaws.{ready-none, ready-some}
use Rattle.advancing.proofs.choices.gather.Goals as goal

pub returns-then-stock-eq0 : goal.returns-then-stock-eq0
returns-then-stock-eq0 g c =
    let a = c.args in
    ready-none a.problem.now a.listed.now c.blank-p.result c.blank-p.ensures.1 a.points.now _ c.search-stock.result c.search-stock.ensures c.if-stock-eq0.true

pub returns : goal.returns
returns g c =
    let a = c.args in
    let stock = c.search-stock.result in
    let points = c.search-stock.new.points in
    let room = c.search-stock.ensures.held.room in
    let inside : c.least-j.result < stock.count = omega (arith, c.least-j.ensures.0 (omega (arith, front_length points stock.count room, c.if-stock-eq0.false)), front_length points stock.count room) in
    let here = get_or_read points c.least-j.result c.index-points-j.result (omega (arith, inside, room)) c.index-points-j.is no_trade in
    ready-some a.problem.now a.listed.now c.blank-p.result c.blank-p.ensures.1 a.points.now points stock c.search-stock.ensures
    c.least-j.result c.index-points-j.result here inside
    (least-front points stock.count room a.problem.now.count c.least-j.result inside c.least-j.ensures.1)
