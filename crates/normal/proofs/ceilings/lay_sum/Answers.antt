use native.Mathlib.Omega.{arith}
use Rattle.charging.proofs.TableLaws.{part_length}
use Rattle.normal.proofs.CostLaws.{zeros}
use Rattle.normal.proofs.CeilingLaws.{heap-none, heap-more, ceiling-one}
use Rattle.normal.proofs.ceilings.lay_sum.Goals as goal

pub loop-h-init : goal.loop-h-init
loop-h-init c = (omega arith, omega arith, omega arith, heap-none c.args.half.now.rows _ _ (zeros 64))

pub loop-h-preserved : goal.loop-h-preserved
loop-h-preserved c =
    let rows = c.args.half.now.rows in
    let h = c.loop-h.h in
    let up = rows.table.rising h c.loop-h-test.true in
    let end = rows.table.inside h c.loop-h-test.true in
    let long = part_length rows.terms.now _ _ up end in
    (omega arith, omega arith, omega (arith, c.args.half.now.narrow.few), heap-more c.loop-h.invariant.3 c.heap_if-more.ensures (omega arith))

pub returns : goal.returns
returns c = ceiling-one c.loop-h.invariant.3 c.loop-h.invariant.2 c.requires.n_value c.lay_heap-cap.ensures.settled c.lay_heap-cap.ensures.cap
