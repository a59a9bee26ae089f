-- No bit is set, so no variable is, and n variables are unset.
use mathlib.Core.Path.{refl}
use Rattle.narrowing.proofs.PutLaws.{blank-unset, blank-good}
use Rattle.narrowing.proofs.blank.Goals as goal

pub returns : goal.returns
returns c = (blank-good c.args.n _ refl refl refl, blank-unset)
