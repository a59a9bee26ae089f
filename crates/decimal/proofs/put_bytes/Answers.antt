-- `decimal::put_bytes` meets its contract: a copy into a part is a write of all bytes, by `copy-all`. Assumes nothing.
use mathlib.Core.Path.{refl, ◌∙◌}
use native.Mathlib.Omega.{arith}
use lib.ListN.{length}
use Rattle.std.proofs.lemmas.Slice.{put_mid-paste}
use Rattle.decimal.proofs.OverwriteLaws.{copy-all}
use Rattle.decimal.proofs.put_bytes.Goals as goal

pub returns-clause-left : goal.returns-clause-left
returns-clause-left c =
    put_mid-paste c.args.at _ c.args.out.now _ c.args.bytes.now (length c.args.bytes.now) c.copy_from_slice.ensures.after (omega arith) refl
    ∙ copy-all c.args.out.now c.args.at c.args.bytes.now _ refl
