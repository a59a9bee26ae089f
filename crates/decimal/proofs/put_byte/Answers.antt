-- `decimal::put_byte` meets its contract: one store is a write of one byte, by `overwrite-one`. Assumes nothing.
use mathlib.Core.Path.{refl}
use native.Mathlib.Omega.{arith}
use Rattle.decimal.proofs.OverwriteLaws.{overwrite-one}
use Rattle.decimal.proofs.put_byte.Goals as goal

pub returns : goal.returns
returns c = record { left = overwrite-one c.args.out.now c.args.at c.args.b (omega arith); next = refl }
