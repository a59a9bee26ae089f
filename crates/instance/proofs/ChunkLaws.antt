-- A list in chunks of one length, by place.
use mathlib.Core.Path.{◌≡◌, refl, sym, ap, ◌∙◌}
use mathlib.Core.List.{List, []}
use Prim.Native.Nat.{ℕ, zero, suc, ◌*◌, ◌<◌}
use native.Mathlib.Nat.{zero-mul}
use native.Mathlib.Omega.{arith}
use lib.ListN.{length, get_or, take, drop}
use Rattle.std.specs.Simd.{first_chunks}
use Rattle.std.proofs.lemmas.List.{drop-drop}

pub length-chunks : {X : Type 0} → (n m : ℕ) (xs : List X) → length (first_chunks n m xs) ≡ m
length-chunks n zero xs = refl
length-chunks n (suc m) xs = ap suc (length-chunks n m (drop n xs))

pub chunk-at : {X : Type 0} → (n m : ℕ) (xs : List X) (k : ℕ) → k < m → get_or (first_chunks n m xs) k [] ≡ take n (drop (k * n) xs)
chunk-at n zero xs k h = absurd (omega arith)
chunk-at n (suc m) xs zero h = ap (λ (i : ℕ). take n (drop i xs)) (sym (zero-mul n))
chunk-at n (suc m) xs (suc k) h =
    chunk-at n m (drop n xs) k (omega arith) ∙ ap (take n) (drop-drop (k * n) n xs ∙ ap (λ (i : ℕ). drop i xs) (omega arith))
