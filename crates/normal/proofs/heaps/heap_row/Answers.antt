-- What the row withholds where it is met is at most its weight less its need (heaps-row).
use mathlib.Core.Path.{ap, subst}
use Prim.Native.Nat.{ℕ}
use native.Mathlib.Omega.{arith}
use lib.ListN.{length}
use Rattle.normal.specs.Ceilings.{Piled}
use Rattle.normal.proofs.CeilingLaws.{row-few, row-fits, pile-none, pile-more, heaps-row}
use Rattle.normal.proofs.heaps.heap_row.Goals as goal

pub loop-t-init : goal.loop-t-init
loop-t-init c = pile-none c.args.half.now.rows.n c.terms_of-terms.result.now c.args.sides.now

pub add-requires : goal.add-requires
add-requires c =
    let v = c.from.result in
    let low = c.loop-t.invariant.small in
    let was = c.requires.h_in_bounds.2 in
    let few = row-few c.args.half.now.rows c.args.half.now.narrow c.args.h c.requires.h_in_bounds.0 in
    let fits = row-fits c.args.half.now.rows c.args.half.now.narrow c.args.h c.requires.h_in_bounds.0 c.terms_of-terms.ensures c.loop-t.t-index c.loop-t-test.true in
    let long = ap length c.terms_of-terms.ensures in
    (omega (arith, fits.2, low v 0, was v 0, few, long), omega (arith, fits.2, low v 1, was v 1, few, long))

pub loop-t-preserved : goal.loop-t-preserved
loop-t-preserved c =
    let fits = row-fits c.args.half.now.rows c.args.half.now.narrow c.args.h c.requires.h_in_bounds.0 c.terms_of-terms.ensures c.loop-t.t-index c.loop-t-test.true in
    rw (c.add.ensures, c.from.ensures) (pile-more c.loop-t.invariant c.requires.h_in_bounds.1 fits.0 fits.1 fits.2)

pub returns : goal.returns
returns c =
    let terms = c.terms_of-terms.result.now in
    let all = subst (λ (k : ℕ). Piled c.args.half.now.rows.n terms k c.args.sides.now c.loop-t.sides) (omega arith) c.loop-t.invariant in
    heaps-row c.args.half.now.rows c.args.h c.requires.h_in_bounds.0 c.terms_of-terms.ensures all c.weight_of.ensures.0 c.weight_of.ensures.1 c.saturating_sub.ensures
