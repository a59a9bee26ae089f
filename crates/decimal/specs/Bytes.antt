-- What a write into lent bytes leaves.
use Rattle.std.specs.Prelude.{List, ◌++◌, ℕ, ◌+◌, length, take, drop}

-- xs with ys written from `at` on
unfoldable pub overwrite : List ℕ → ℕ → List ℕ → List ℕ
overwrite xs at ys = take at xs ++ (ys ++ drop (at + length ys) xs)
