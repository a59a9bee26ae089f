use mathlib.Core.Path.{subst}
use Prim.Native.Nat.{ℕ}
use native.Mathlib.Omega.{arith}
use Rattle.charging.proofs.TableLaws.{costs-length}
use Rattle.normal.specs.Costs.{Priced}
use Rattle.normal.proofs.PricedLaws.{earlier-below, parts_more}
use Rattle.normal.proofs.costs.lay_objectives.Goals as goal

pub loop-i-preserved : goal.loop-i-preserved
loop-i-preserved c =
    let room = earlier-below c.loop-i.i c.args.count c.args.n (omega arith) in
    let n = costs-length c.args.n c.loop-i.costs c.loop-i.i (omega arith) in
    let q = subst (λ (m : ℕ). Priced c.args.terms.now c.args.rows.now m c.loop-i.i c.lay_objective.new.costs) n c.lay_objective.ensures in
    parts_more (λ j cs. Priced c.args.terms.now c.args.rows.now c.args.n j cs) c.args.n c.loop-i.costs c.lay_objective.new.costs c.loop-i.i (omega arith) q.are.long c.loop-i.invariant q
