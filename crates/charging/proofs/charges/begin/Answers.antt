-- As in `sure` and `owed`, side by side.
use mathlib.Core.Path.{◌≡◌, sym, ap, ◌∙◌}
use Prim.Native.Nat.{ℕ, ◌≤◌, ◌<◌, ◌^◌}
use native.Mathlib.Omega.{arith}
use lib.ListN.{length}
use Rattle.charging.specs.Rows.{hit, span, of, gap, dear}
use Rattle.charging.proofs.SumLaws.{sum_none, sum_more, span-le, hit-le}
use Rattle.charging.proofs.ChargeLaws.{owed-first, owed-more}
use Rattle.charging.proofs.charges.begin.Goals as goal

pub loop-v-init : goal.loop-v-init
loop-v-init c = (sym (sum_none _), owed-first (of c.args.p) c.args.costs.now c.args.res.now)

pub overflow_add-sum : goal.overflow_add-sum
overflow_add-sum c =
    let cs = c.args.costs.now in
    let f : ℕ → ℕ = λ (v : ℕ). hit (of c.args.p v) (dear cs v) (gap cs v) in
    let low : (k : ℕ) → k < length cs → f k ≤ 2 ^ 34 = λ k l. omega (arith, hit-le (of c.args.p k) (dear cs k) (gap cs k), c.requires.0.small k l) in
    let up = span-le f c.loop-v.v (2 ^ 34) (λ k l. low k (omega arith)) in
    let z = low c.loop-v.v (omega arith) in
    let s = c.loop-v.invariant.0 in
    rw (c.charged-sum.ensures, c.look-y.ensures) (omega arith)

pub loop-v-preserved : goal.loop-v-preserved
loop-v-preserved c =
    let s = c.loop-v.invariant.0 in (
      rw (sum_more, ← c.look-y.ensures) (omega arith),
      owed-more c.loop-v.invariant.1 (omega arith) (λ e. c.owed-left.ensures.0 (c.look-y.ensures ∙ e)) (λ n. c.owed-left.ensures.1 (λ e. n (sym c.look-y.ensures ∙ e))),
    )

pub returns-clause-sure : goal.returns-clause-sure
returns-clause-sure c =
    let cs = c.args.costs.now in
    let f : ℕ → ℕ = λ (v : ℕ). hit (of c.args.p v) (dear cs v) (gap cs v) in
    let e : c.loop-v.v ≡ length cs = omega arith in
    let up = span-le f (length cs) (2 ^ 34) (λ k l. omega (arith, hit-le (of c.args.p k) (dear cs k) (gap cs k), c.requires.0.small k l)) in
    let s : c.loop-v.sum ≡ span f 0 (length cs) = c.loop-v.invariant.0 ∙ ap (λ (i : ℕ). span f 0 i) e in
    (s, omega arith)
