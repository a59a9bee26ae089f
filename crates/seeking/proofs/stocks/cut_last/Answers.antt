-- Either the trade or the greatest one is left out, and is the limit (keeps-last, keeps-out).
use native.Mathlib.Omega.{arith}
use mathlib.Core.Path.{ap}
use Prim.Native.Nat.{◌<◌}
use lib.ListN.{length-set}
use Rattle.std.proofs.lemmas.List.{get_or_default}
use Rattle.capping.specs.declared.trades.Trade.{Trade}
use Rattle.capping.specs.Caps.{no_trade}
use Rattle.seeking.proofs.StockLaws.{front_length, greatest-front, keeps-last, keeps-out}
use Rattle.seeking.proofs.stocks.cut_last.Goals as goal

pub returns-then-earlier : goal.returns-then-earlier
returns-then-earlier g c =
    let points = c.args.points.now in
    let count = c.args.stock.count in
    let j = c.greatest-j.result in
    let room = c.requires.sizes.1 in
    let inside : j < count = omega (arith, c.greatest-j.ensures.0, front_length points count room) in
    let last = ap (λ (t : Trade g.row.K). t.costs) (get_or_default points j c.index-points-j.result no_trade (omega (arith, inside, room))) in
    keeps-last c.args.k c.args.trade points j (omega arith) c.args.stock _ (simp length-set room) inside
    (greatest-front points count room c.args.k j inside c.greatest-j.ensures.1) last (c.earlier.ensures.yes c.if-earlier.true) c.requires.limit.0

pub returns : goal.returns
returns g c =
    let points = c.args.points.now in
    let count = c.args.stock.count in
    let j = c.greatest-j.result in
    let room = c.requires.sizes.1 in
    let inside : j < count = omega (arith, c.greatest-j.ensures.0, front_length points count room) in
    let last = ap (λ (t : Trade g.row.K). t.costs) (get_or_default points j c.index-points-j.result no_trade (omega (arith, inside, room))) in
    keeps-out c.args.k c.args.trade points c.args.stock j room inside
    (greatest-front points count room c.args.k j inside c.greatest-j.ensures.1) _ last
    (c.earlier.ensures.no c.if-earlier.false) c.requires.limit.1
