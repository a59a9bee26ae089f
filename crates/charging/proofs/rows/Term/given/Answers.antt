-- By whether the variable stands at `off`.
use mathlib.Core.Path.{sym}
use Rattle.charging.proofs.SumLaws.{miss-eq, miss-ne}
use Rattle.charging.proofs.rows.Term.given.Goals as goal

pub returns-then-y-self : goal.returns-then-y-self
returns-then-y-self c = sym (miss-eq _ _ _ c.if-y-self.true)

pub returns-else-y-self : goal.returns-else-y-self
returns-else-y-self c = sym (miss-ne _ _ _ c.if-y-self.false)
