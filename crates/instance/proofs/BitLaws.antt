-- When an assignment has no bit from n up.
use mathlib.Core.Path.{subst}
use Prim.Native.Nat.{ℕ, ◌+◌, ◌*◌, ◌/◌, ◌^◌, ◌<◌}
use native.Mathlib.Nat.{div-eq_of_lt, lt-div-mul-add}
use native.Mathlib.Omega.{arith}
use borrow.Author.Tests.{eqb-true, eqb-false}
use lib.Dec.{eqb}
use lib.Pow.{pow_pos}
use Rattle.instance.specs.Tests.{Decides}

pub shift-decides : (a n : ℕ) → Decides (eqb (a / 2 ^ n) 0) (a < 2 ^ n)
shift-decides a n = record {
  yes = λ t. let h : a < 0 * 2 ^ n + 2 ^ n = subst (λ (q : ℕ). a < q * 2 ^ n + 2 ^ n) (eqb-true (a / 2 ^ n) 0 t) (lt-div-mul-add (pow_pos n)) in omega arith;
  no = λ t h. eqb-false (a / 2 ^ n) 0 t (div-eq_of_lt h);
}
