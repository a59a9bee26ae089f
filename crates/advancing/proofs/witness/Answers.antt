use native.Mathlib.Omega.{arith}
use Prim.Native.Nat.{◌≤◌}
use lib.ListN.{length}
use Rattle.capping.specs.Caps.{vec}
use Rattle.seeking.proofs.SeekLaws.{below-front, front-below}
use Rattle.advancing.specs.Next.{AtMost}
use Rattle.advancing.proofs.NextLaws.{smallest-same}
use Rattle.advancing.proofs.witness.Goals as goal

pub returns : goal.returns
returns g c =
    let P = c.args.problem.now in
    let costs = c.args.costs.now in
    let long : P.count ≤ length costs = omega (arith, P.few) in
    smallest-same P.rows.n _ (AtMost P costs) c.smallest.result (λ x w. record { meets = w.meets; below = front-below P.count costs (vec P x) long w.under })
    (λ x w. record { meets = w.meets; under = below-front P.count costs (vec P x) w.below }) c.smallest.ensures
