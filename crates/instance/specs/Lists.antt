-- Lists by index, and runs of indices: what the tables' meaning is built from.
use Rattle.std.specs.Prelude.{Bool, cond, List, [], ◌∷◌, ℕ, zero, suc}

-- f first, f (first + 1), .. : n of them.
unfoldable pub tabulate {ℓ} : {A : Type ℓ} → (ℕ → A) → ℕ → ℕ → List A
tabulate f first zero = []
tabulate f first (suc n) = f first ∷ tabulate f (suc first) n

-- How many numbers in a row, from `first` on and at most n of them, have p.
unfoldable pub run : (ℕ → Bool) → ℕ → ℕ → ℕ
run p first zero = 0
run p first (suc n) = cond (p first) (suc (run p (suc first) n)) 0
