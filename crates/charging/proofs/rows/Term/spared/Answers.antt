-- By the definition, one test after the other.
use mathlib.Core.Path.{sym}
use Rattle.charging.proofs.SumLaws.{spare-none, spare-free, spare-paid, spare-charged}
use Rattle.charging.proofs.rows.Term.spared.Goals as goal

pub returns-then-y-self : goal.returns-then-y-self
returns-then-y-self c = sym (spare-none _ _ _ _ _ c.if-y-self.true)

pub returns-then-dear-self : goal.returns-then-dear-self
returns-then-dear-self c = sym (spare-free _ _ _ _ _ c.if-y-self.false c.if-dear-self.true)

pub returns-then-left-eq0 : goal.returns-then-left-eq0
returns-then-left-eq0 c = sym (spare-paid _ _ _ _ _ c.if-y-self.false c.if-dear-self.false c.if-left-eq0.true)

pub returns-else-left-eq0 : goal.returns-else-left-eq0
returns-else-left-eq0 c = sym (spare-charged _ _ _ _ _ c.if-y-self.false c.if-dear-self.false c.if-left-eq0.false)
