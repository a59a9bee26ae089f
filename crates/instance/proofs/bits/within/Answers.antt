-- Below 64 the number shifted by n is 0 exactly where it is below 2 ^ n; a number of 64 bits has none from 64 up, nor from any higher n.
use native.Mathlib.Nat.{lt_of_lt_of_le}
use lib.Pow.{pow_mono}
use Rattle.instance.proofs.TestLaws.{holds}
use Rattle.instance.proofs.BitLaws.{shift-decides}
use Rattle.instance.proofs.bits.within.Goals as goal

pub returns-then-n-lt64 : goal.returns-then-n-lt64
returns-then-n-lt64 c = shift-decides c.args.a c.args.n

pub returns : goal.returns
returns c = holds (lt_of_lt_of_le c.ranges.a.fits (pow_mono c.if-n-lt64.false))
