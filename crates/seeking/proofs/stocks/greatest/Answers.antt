use lib.ListN.{get_or}
use Rattle.std.proofs.lemmas.List.{get_or_default, get_or_read}
use Rattle.capping.specs.Caps.{no_trade}
use Rattle.seeking.proofs.StockLaws.{greatest-new, greatest-old}
use Rattle.seeking.proofs.stocks.greatest.Goals.{then-earlier, else-earlier}
use Rattle.seeking.proofs.stocks.greatest.Goals as goal

pub loop-j-preserved : goal.loop-j-preserved
loop-j-preserved g c =
    let k = c.args.k in
    let ts = c.args.trades.now in
    let j = c.loop-j.j in
    let b = c.loop-j.best in
    let old = c.loop-j.invariant in
    let x = c.index-trades-j.result in
    let y = get_or ts b c.index-trades-best.result in
    let here = get_or_read ts j x c.loop-j-test.true c.index-trades-j.is no_trade in
    let there = get_or_default ts b c.index-trades-best.result no_trade old.0 in
    elim c.if-earlier.branch [
      | then-earlier w ↦ rw w.best-is (c.loop-j-test.true, greatest-new k ts j b x y here there old.1 (c.earlier.ensures.yes w.if-earlier.true))
      | else-earlier w ↦ rw w.best-is (old.0, greatest-old k ts j b x y here there old.1 (c.earlier.ensures.no w.if-earlier.false))
    ]
