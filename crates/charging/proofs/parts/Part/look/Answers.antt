-- The two tests read bit v of the two words, as `seen` does.
use mathlib.Core.Path.{sym, ◌∙◌}
use Rattle.charging.proofs.BitLaws.{bit_word, seen-unset, seen-set}
use Rattle.charging.proofs.parts.Part.look.Goals as goal

pub returns-then-self-v-eq0 : goal.returns-then-self-v-eq0
returns-then-self-v-eq0 c = sym (seen-unset c.args.self.set c.args.self.one c.args.v (bit_word c.args.self.set c.args.v ∙ c.if-self-v-eq0.true))

pub returns : goal.returns
returns c = sym (seen-set c.args.self.set c.args.self.one c.args.v (λ z. c.if-self-v-eq0.false (sym (bit_word c.args.self.set c.args.v) ∙ z)) ∙ bit_word c.args.self.one c.args.v)
