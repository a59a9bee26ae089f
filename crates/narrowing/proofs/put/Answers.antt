-- v is unset in both words, so adding 2 ^ v sets its bit and no other.
use native.Mathlib.Omega.{arith}
use mathlib.Core.Path.{◌≡◌, refl, ap}
use Prim.Native.Nat.{ℕ, ◌<◌, ◌+◌}
use Rattle.narrowing.proofs.PutLaws.{shifted, set_room, put-zero, put_one, put-left}
use Rattle.narrowing.proofs.put.Goals as goal

pub overflow_add-off : goal.overflow_add-off
overflow_add-off c =
    let few : c.args.v < 64 = omega (arith, c.requires.2) in
    record { fits = (set_room c.args.n c.args.p c.args.v c.requires.0 c.requires.4 few).0 (omega arith) }

pub overflow_sub-off : goal.overflow_sub-off
overflow_sub-off c = put-left c.args.n c.args.p c.args.v c.requires.0 c.requires.1 c.requires.4

pub returns-then-b-eq0 : goal.returns-then-b-eq0
returns-then-b-eq0 c =
    let few : c.args.v < 64 = omega (arith, c.requires.2) in
    let set = ap (λ (y : ℕ). c.args.p.set + y) (shifted c.args.v few) in
    rw c.if-b-eq0.true (put-zero c.args.n c.args.p c.args.v _ c.requires.0 c.requires.1 c.requires.4 set refl refl)

pub overflow_add-result : goal.overflow_add-result
overflow_add-result c =
    let few : c.args.v < 64 = omega (arith, c.requires.2) in
    record { fits = (set_room c.args.n c.args.p c.args.v c.requires.0 c.requires.4 few).1 (omega arith) }

pub returns : goal.returns
returns c =
    let few : c.args.v < 64 = omega (arith, c.requires.2) in
    let set = ap (λ (y : ℕ). c.args.p.set + y) (shifted c.args.v few) in
    let one = ap (λ (y : ℕ). c.args.p.one + y) (shifted c.args.v few) in
    let b : c.args.b ≡ 1 = omega (arith, c.if-b-eq0.false, c.requires.3) in
    rw b (put_one c.args.n c.args.p c.args.v _ c.requires.0 c.requires.1 c.requires.4 set one refl)
