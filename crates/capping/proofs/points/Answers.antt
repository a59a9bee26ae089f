use mathlib.Core.Path.{◌≡◌}
use native.Mathlib.Omega.{arith}
use lib.ListN.{length}
use Rattle.std.specs.Prelude.{Some, None}
use Rattle.std.proofs.lemmas.List.{get_or_read}
use Rattle.capping.specs.Caps.{no_trade, Tight}
use Rattle.capping.proofs.CapLaws.{tight-more, tight-off}
use Rattle.capping.proofs.points.Goals as goal

pub returns-in_err-cap : goal.returns-in_err-cap
returns-in_err-cap g c =
    let k = c.args.k in
    let low = c.args.low.now in
    let l = c.loop-trade in
    let trades = c.args.trades.now in
    let item = c.trade-item.result in
    let here = get_or_read trades l.trade-index item c.loop-trade-test.true c.trade-item.is no_trade in
    let more = tight-more k low c.args.cap l.cap trades l.trade-index item None here l.invariant c.in_err-cap.ensures in
    rw (c.from_residual.ensures, Tight) (tight-off k low c.args.cap trades _ (length trades) (omega arith) more)

pub loop-trade-preserved : goal.loop-trade-preserved
loop-trade-preserved g c =
    let l = c.loop-trade in
    let trades = c.args.trades.now in
    let item = c.trade-item.result in
    let here = get_or_read trades l.trade-index item c.loop-trade-test.true c.trade-item.is no_trade in
    tight-more c.args.k c.args.low.now c.args.cap l.cap trades l.trade-index item (Some c.in_ok-cap.cap) here l.invariant c.in_ok-cap.ensures

pub returns : goal.returns
returns g c = let e : c.loop-trade.trade-index ≡ length c.args.trades.now = omega arith in rw e at c.loop-trade.invariant
