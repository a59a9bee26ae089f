use mathlib.Core.Path.{sym}
use Prim.Native.Nat.{ℕ, ◌≤◌, ◌<◌, ◌^◌}
use native.Mathlib.Omega.{arith}
use lib.ListN.{length}
use Rattle.charging.specs.Rows.{term, of, variable, side, weight}
use Rattle.charging.proofs.SumLaws.{sum_none, sum_more, span-le, miss-le}
use Rattle.charging.proofs.terms.reach.Goals as goal

pub loop-term-init : goal.loop-term-init
loop-term-init c = sym (sum_none _)

pub overflow_add-sum : goal.overflow_add-sum
overflow_add-sum c =
    let ts = c.args.terms.now in
    let y = of c.args.p in
    let i = c.loop-term.term-index in
    let low : (k : ℕ) → k < length ts → term ts y k ≤ 2 ^ 34 = λ k l. omega (arith, miss-le (y (variable ts k)) (side ts k) (weight ts k), c.requires.small k l) in
    let up = span-le (term ts y) i (2 ^ 34) (λ k l. low k (omega arith)) in
    let z = low i (omega arith) in
    rw (c.given-sum.ensures, c.look.ensures) (omega (arith, c.requires.short))

pub loop-term-preserved : goal.loop-term-preserved
loop-term-preserved c = rw (sum_more, ← c.look.ensures) (omega arith)
