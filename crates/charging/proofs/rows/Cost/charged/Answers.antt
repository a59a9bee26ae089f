-- By whether the variable stands on its dear side.
use mathlib.Core.Path.{sym}
use Rattle.charging.proofs.SumLaws.{hit-eq, hit-ne}
use Rattle.charging.proofs.rows.Cost.charged.Goals as goal

pub returns-then-y-self : goal.returns-then-y-self
returns-then-y-self c = sym (hit-eq _ _ _ c.if-y-self.true)

pub returns-else-y-self : goal.returns-else-y-self
returns-else-y-self c = sym (hit-ne _ _ _ c.if-y-self.false)
