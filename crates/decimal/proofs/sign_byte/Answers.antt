-- `decimal::sign_byte` meets its contract: the test of the sign picks the byte. Assumes nothing.
use Rattle.decimal.proofs.PutLaws.{sign-neg, sign_pos}
use Rattle.decimal.proofs.sign_byte.Goals as goal

pub returns-then-x-lt0 : goal.returns-then-x-lt0
returns-then-x-lt0 c = sign-neg c.args.x c.ranges.x c.if-x-lt0.true

pub returns-else-x-lt0 : goal.returns-else-x-lt0
returns-else-x-lt0 c = sign_pos c.args.x c.ranges.x c.if-x-lt0.false
