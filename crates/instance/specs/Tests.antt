-- What tests of the code decide.
use Rattle.std.specs.Prelude.{◌≡◌, Bool, true, false, ℕ, ◌≤◌, T, ℤ, nat_abs}
use Rattle.std.specs.Int.Signed.{non_neg}

-- r is true exactly where P holds.
pub record Decides (r : Bool) (P : Type 0) : Type 0 where
  pub yes : r ≡ true → P
  pub no : r ≡ false → P → ⊥

-- x is one of 0, 1, .., most.
pub record UpTo (most : ℕ) (x : ℤ) : Type 0 where
  pub natural : T (non_neg x)
  pub small : nat_abs x ≤ most
