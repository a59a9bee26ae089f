-- A complete part that meets the rows, is fresh of the listed and the gathered trades and comes before the limit is kept; in all other cases
-- nothing here is wanted.
use Rattle.capping.specs.Caps.{at}
use Rattle.seeking.proofs.StockLaws.{fresh-back}
use Rattle.seeking.proofs.SeekLaws.{leaf-stale, leaf-had, leaf-past, leaf-kept}
use Rattle.seeking.proofs.leaves.leaf.Goals as goal

pub returns-then-not-fresh : goal.returns-then-not-fresh
returns-then-not-fresh g c =
    let a = c.args in
    leaf-stale a.problem.now a.listed.now a.q a.points.now a.stock c.requires.held (at c.price-costs.result) c.price-costs.ensures (c.fresh.ensures.no c.if-not-fresh.true)

pub returns-then-not-fresh-2 : goal.returns-then-not-fresh-2
returns-then-not-fresh-2 g c =
    let a = c.args in
    let f = at c.price-costs.result in
    leaf-had a.problem.now a.listed.now a.q a.points.now a.stock c.requires.held f c.price-costs.ensures
    (λ fr. c.fresh-2.ensures.no c.if-not-fresh-2.true (fresh-back a.points.now a.stock.count c.requires.held.room a.problem.now.count f fr))

pub returns-then-not-before : goal.returns-then-not-before
returns-then-not-before g c =
    let a = c.args in
    leaf-past a.problem.now a.listed.now a.q a.points.now a.stock c.requires.held (at c.price-costs.result) c.price-costs.ensures (c.before-2.ensures.no c.if-not-before.true)

pub returns : goal.returns
returns g c =
    let a = c.args in
    leaf-kept a.problem.now a.listed.now a.q a.points.now a.stock c.requires.held c.price-costs.result _ c.keep.result c.price-costs.ensures
    c.requires.part.1.fits c.requires.part.0 (c.met.ensures.yes c.if-not-met.false) (c.fresh.ensures.yes c.if-not-fresh.false) c.keep.ensures
