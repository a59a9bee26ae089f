-- What one row withholds, laid out as a ceiling.
use native.Mathlib.Omega.{arith}
use Rattle.normal.proofs.CostLaws.{zeros}
use Rattle.normal.proofs.CeilingLaws.{row-few, heap_one, ceiling-one}
use Rattle.normal.proofs.ceilings.lay_ceiling.Goals as goal

pub heap_row-slack-requires : goal.heap_row-slack-requires
heap_row-slack-requires c = record { h_in_bounds = (c.requires.h_in_bounds.0, omega (arith, c.args.half.now.rows.table.every.few), λ v b. omega (arith, zeros 64 v b)) }

pub lay_heap-requires : goal.lay_heap-requires
lay_heap-requires c =
    let few = row-few c.args.half.now.rows c.args.half.now.narrow c.args.h c.requires.h_in_bounds.0 in
    (omega (arith, c.args.half.now.rows.table.every.few), omega (arith, c.args.half.now.rows.table.every.few), λ v b. omega (arith, few, zeros 64 v b, c.heap_row-slack.ensures.small v b))

pub returns : goal.returns
returns c =
    let few = row-few c.args.half.now.rows c.args.half.now.narrow c.args.h c.requires.h_in_bounds.0 in
    ceiling-one (heap_one (zeros 64) c.heap_row-slack.ensures) few c.requires.h_in_bounds.1 c.lay_heap.ensures.settled c.lay_heap.ensures.cap
