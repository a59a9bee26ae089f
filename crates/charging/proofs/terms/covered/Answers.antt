use mathlib.Core.Path.{sym}
use Prim.Native.Nat.{ℕ, ◌≤◌, ◌<◌, ◌^◌}
use native.Mathlib.Omega.{arith}
use lib.ListN.{length, get_or}
use Rattle.charging.specs.Rows.{spare_at, of, variable, side, weight, dear}
use Rattle.charging.proofs.SumLaws.{sum_none, sum_more, span-le, spare-le}
use Rattle.charging.proofs.terms.covered.Goals as goal

pub loop-term-init : goal.loop-term-init
loop-term-init c = sym (sum_none _)

pub overflow_add-sum : goal.overflow_add-sum
overflow_add-sum c =
    let ts = c.args.terms.now in
    let cs = c.args.costs.now in
    let res = c.args.res.now in
    let y = of c.args.p in
    let i = c.loop-term.term-index in
    let low : (k : ℕ) → k < length ts → spare_at ts y cs res k ≤ 2 ^ 34
    = λ k l. omega (arith, spare-le (y (variable ts k)) (side ts k) (dear cs (variable ts k)) (get_or res (variable ts k) 0) (weight ts k), c.requires.0.small k l) in
    let up = span-le (spare_at ts y cs res) i (2 ^ 34) (λ k l. low k (omega arith)) in
    let z = low i (omega arith) in
    rw (c.spared-sum.ensures, c.look.ensures) (omega (arith, c.requires.0.short))

pub loop-term-preserved : goal.loop-term-preserved
loop-term-preserved c = rw (sum_more, ← c.look.ensures) (omega arith)
