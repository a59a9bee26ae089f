-- A trade that dominates f is one of the trades; one that does not is one more that leaves f alone.
use mathlib.Core.Path.{subst}
use Prim.Native.Nat.{ℕ}
use borrow.Author.Count.{below_more}
use Rattle.std.proofs.lemmas.List.{get_or_read}
use Rattle.capping.specs.declared.trades.Trade.{Trade}
use Rattle.capping.specs.Caps.{at, row, no_trade, Within}
use Rattle.seeking.proofs.vectors.fresh.Goals as goal

pub returns-then-within-clause-no : goal.returns-then-within-clause-no
returns-then-within-clause-no g c _ fr =
    let l = c.loop-trade in
    let f = at c.args.f.now in
    let here = get_or_read c.args.trades.now l.trade-index c.trade-item.result c.loop-trade-test.true c.trade-item.is no_trade in
    fr l.trade-index c.loop-trade-test.true (subst (λ (t : Trade g.row.K). Within c.args.k (at t.costs) f) here (c.within.ensures.yes c.if-within.true))

pub loop-trade-preserved : goal.loop-trade-preserved
loop-trade-preserved g c =
    let l = c.loop-trade in
    let f = at c.args.f.now in
    let here = get_or_read c.args.trades.now l.trade-index c.trade-item.result c.loop-trade-test.true c.trade-item.is no_trade in
    below_more (λ (q : ℕ). Within c.args.k (row c.args.trades.now q) f → ⊥) l.trade-index l.invariant
    (subst (λ (t : Trade g.row.K). Within c.args.k (at t.costs) f → ⊥) here (c.within.ensures.no c.if-within.false))
