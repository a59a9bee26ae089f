use mathlib.Core.Path.{ap, ◌∙◌}
use Prim.Native.Nat.{◌+◌}
use native.Mathlib.Omega.{arith}
use Rattle.instance.specs.Tables.{term_at}
use Rattle.normal.specs.declared.Half.{Half}
use Rattle.normal.specs.Halves.{half_of}
use Rattle.normal.proofs.LaidLaws.{put-none, put-more, lost-le}
use Rattle.normal.proofs.rows.put_half.Goals as goal

pub loop-k-init : goal.loop-k-init
loop-k-init c = (put-none c.args.terms.now c.args.first c.args.turn c.args.at c.args.laid.now, omega arith)

pub loop-k-preserved : goal.loop-k-preserved
loop-k-preserved c =
    let e = c.half_of-h.ensures ∙ ap (half_of c.args.turn) c.at.ensures in (
      put-more c.args.terms.now c.args.first c.args.turn c.args.at c.loop-k.k c.loop-k.invariant.0 (omega (arith, c.requires.count_in_bounds)) c.half_of-h.result e,
      omega (
        arith,
        c.loop-k.invariant.1,
        lost-le c.args.turn (term_at c.args.terms.now (c.args.first + c.loop-k.k)) (c.requires.terms_ok (c.args.first + c.loop-k.k) (omega arith)),
        ap (λ (h : Half). h.lost) e,
      ),
    )
