use native.Mathlib.Omega.{arith}
use Rattle.charging.specs.Rows.{of}
use Rattle.charging.proofs.ChargeLaws.{charge-none}
use Rattle.charging.proofs.charges.charge.Goals as goal

pub loop-i-init : goal.loop-i-init
loop-i-init c =
    (omega (arith, c.begin-start.ensures.sure.1), charge-none c.args.rows.now (of c.args.p) c.args.costs.now c.begin-start.result.by _ c.requires.0 c.begin-start.ensures.owed c.begin-start.ensures.sure.0)
