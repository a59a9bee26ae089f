use mathlib.Core.Path.{sym}
use native.Mathlib.Omega.{arith}
use Rattle.charging.specs.Rows.{weight}
use Rattle.charging.proofs.SumLaws.{sum_none, sum_more}
use Rattle.normal.proofs.heaps.weight_of.Goals as goal

pub loop-t-init : goal.loop-t-init
loop-t-init c = (sym (sum_none _), omega arith)

pub loop-t-preserved : goal.loop-t-preserved
loop-t-preserved c = (omega (arith, sum_more (weight c.args.terms.now) c.loop-t.t-index), omega (arith, c.requires.1 c.loop-t.t-index (omega arith)))
