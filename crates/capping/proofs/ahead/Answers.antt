use mathlib.Core.Path.{◌∙◌}
use borrow.Author.Rules.{rules}
use native.Mathlib.Omega.{arith}
use Prim.Native.Nat.{min}
use lib.ListN.{set, get_or}
use Rattle.capping.proofs.CapLaws.{ahead-cap, ahead_more, ahead-off, ahead-end, ahead-on}
use Rattle.capping.proofs.ahead.Goals as goal

pub returns-then-top-j : goal.returns-then-top-j
returns-then-top-j g c f a b h =
    ahead-off c.args.k c.args.low.now c.in-Some.top c.args.cap c.loop-j.cap c.loop-j.j c.loop-j.invariant.1 c.loop-j-test.true c.if-top-j.true f a b
    (λ t e. h t (c.in-Some.is ∙ e))

pub returns-then-low-j : goal.returns-then-low-j
returns-then-low-j g c f a b h =
    let k = c.args.k in
    let low = c.args.low.now in
    let top = c.in-Some.top in
    let new = ahead-cap k low top c.args.cap c.loop-j.cap c.loop-j.j c.loop-j.invariant.1 (omega (arith, c.loop-j.invariant.0)) c.loop-j-test.true in
    rw c.min.ensures (ahead-on k low top c.args.cap (set c.loop-j.cap c.loop-j.j (min (get_or c.loop-j.cap c.loop-j.j 0) (get_or top c.loop-j.j 0))) c.loop-j.j new f a b
    (λ t e. h t (c.in-Some.is ∙ e)))

pub loop-j-preserved : goal.loop-j-preserved
loop-j-preserved g c =
    let k = c.args.k in
    let low = c.args.low.now in
    let top = c.in-Some.top in
    let new = ahead-cap k low top c.args.cap c.loop-j.cap c.loop-j.j c.loop-j.invariant.1 (omega (arith, c.loop-j.invariant.0)) c.loop-j-test.true in
    rw c.min.ensures (
      search rules,
      ahead_more k low top c.args.cap (set c.loop-j.cap c.loop-j.j (min (get_or c.loop-j.cap c.loop-j.j 0) (get_or top c.loop-j.j 0))) c.loop-j.j new c.loop-j-test.true c.if-low-j.false,
    )

pub returns : goal.returns
returns g c f a b h =
    ahead-end c.args.k c.args.low.now c.in-Some.top c.args.cap c.loop-j.cap c.loop-j.j c.loop-j.invariant.1 (omega arith) f a b (λ t e. h t (c.in-Some.is ∙ e))
