use mathlib.Core.Path.{◌≡◌, sym, ◌∙◌}
use Prim.Native.Nat.{◌-◌}
use native.Mathlib.Omega.{arith}
use Rattle.instance.proofs.ListLaws.{passed_none, passed-more, passed-stop, passed-all}
use Rattle.instance.proofs.counts.rows_of.Goals as goal

pub loop-n-init : goal.loop-n-init
loop-n-init c = passed_none

pub returns-then-not-is_row : goal.returns-then-not-is_row
returns-then-not-is_row c = passed-stop c.loop-n.invariant (sym c.is_row.ensures ∙ c.if-not-is_row.true)

pub loop-n-preserved : goal.loop-n-preserved
loop-n-preserved c = passed-more c.loop-n.invariant (omega arith) (sym c.is_row.ensures ∙ c.if-not-is_row.false)

pub returns : goal.returns
returns c = let e : 260 - c.args.first ≡ c.loop-n.n = omega arith in e ∙ passed-all c.loop-n.invariant (omega arith)
