-- Each clause is tried; where vectors rise, the last decides whether none dominates another.
use native.Mathlib.Omega.{arith}
use Rattle.instance.proofs.TestLaws.{refused, accepted}
use Rattle.points.proofs.OrderLaws.{clash}
use Rattle.points.proofs.RowLaws.{proper-rows, rise-rows, apart-proper}
use Rattle.points.proofs.lists.is_proper.Goals as goal

pub returns-then-is_rising : goal.returns-then-is_rising
returns-then-is_rising c =
    let rows = c.as_chunks.result.0.now in
    let e = c.as_chunks.ensures.front in
    record {
      yes = λ t. proper-rows c.args.values.now c.args.points rows e (omega arith) (omega arith) (omega arith) (omega arith) (omega arith) (omega arith)
          (accepted c.values_fine.ensures c.if-not-values_fine.false) (accepted c.models_fine.ensures c.if-not-models_fine.false)
          (accepted c.is_rising.ensures c.if-is_rising.true) (accepted c.is_apart.ensures t);
      no = λ t p. refused c.is_apart.ensures t (apart-proper c.args.values.now c.args.points rows e (omega arith) p);
    }

pub returns-else-is_rising : goal.returns-else-is_rising
returns-else-is_rising c =
    record {
      yes = λ t. clash t c.if-is_rising.false;
      no = λ t p. refused c.is_rising.ensures t (rise-rows c.args.values.now c.args.points c.as_chunks.result.0.now c.as_chunks.ensures.front (omega arith) p.rising);
    }
