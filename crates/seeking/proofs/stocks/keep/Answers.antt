-- A trade that this one weakly dominates makes room for it, or there is room; else cut_last.
use native.Mathlib.Omega.{arith}
use mathlib.Core.Path.{refl}
use Prim.Native.Nat.{◌+◌}
use lib.ListN.{length-set}
use Rattle.capping.specs.Caps.{at}
use Rattle.seeking.proofs.StockLaws.{worse-front, keeps_placed}
use Rattle.seeking.proofs.stocks.keep.Goals as goal

pub returns-in-Some : goal.returns-in-Some
returns-in-Some g c =
    let a = c.args in
    let room = c.requires.sizes.1 in
    let w = worse-front a.points.now a.stock.count room a.k c.in-Some.j (at a.trade.costs) c.in-Some.ensures.0 c.in-Some.ensures.1 in
    keeps_placed a.k a.trade a.points.now c.in-Some.j (omega (arith, w.0)) a.stock a.stock refl (simp length-set room) (omega arith) w.0 (λ u z e. z) (λ _. w.1)
    c.requires.limit.0 c.requires.limit.1

pub returns-then-count-points : goal.returns-then-count-points
returns-then-count-points g c =
    let a = c.args in
    let count = a.stock.count in
    keeps_placed a.k a.trade a.points.now count c.if-count-points.true a.stock (record { count = count + 1; limit = a.stock.limit }) refl
    (simp length-set (omega arith)) (omega arith) (omega arith) (λ u z e. omega (arith, z, e)) (λ q. absurd (omega (arith, q))) c.requires.limit.0 c.requires.limit.1
