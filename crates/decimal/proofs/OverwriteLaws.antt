-- What a write leaves: its length, its three parts, and two writes one after the other. Assumes nothing.
use mathlib.Core.Path.{◌≡◌, refl, sym, ap, ◌∙◌}
use mathlib.Core.List.{List, [], ◌∷◌, ◌++◌, append_assoc}
use Prim.Native.Nat.{ℕ, suc, ◌+◌, ◌≤◌, ◌<◌}
use native.Mathlib.Nat.{add-zero}
use native.Mathlib.Numerals.{add-one}
use native.Mathlib.Omega.{arith}
use lib.ListN.{length, take, drop, set, length-append, length-drop, length-set, take-append-drop}
use lib.Seq.{length-take-le, take-length, take_at, drop_at, drop-drop, drop-cons, get_or-set_same, take-set-le, drop-set-lt, set_split, paste}
use Rattle.decimal.specs.Bytes.{overwrite}

-- ---- overwrite

-- a write of nothing changes nothing
pub overwrite-nil : (xs : List ℕ) (at : ℕ) → overwrite xs at [] ≡ xs
unfolding overwrite
overwrite-nil xs at = ap (λ (k : ℕ). take at xs ++ drop k xs) (add-zero at) ∙ take-append-drop at xs

module _ (xs : List ℕ) (at : ℕ) (ys : List ℕ) (fits : at + length ys ≤ length xs) where
  -- what is written, with what is before it, ends where it should
  head-length : length (take at xs ++ ys) ≡ at + length ys
  head-length = length-append (take at xs) ys ∙ ap (λ (k : ℕ). k + length ys) (length-take-le at xs (omega arith))

  -- the two parts of a write that meet after what is written
  overwrite-split : overwrite xs at ys ≡ (take at xs ++ ys) ++ drop (at + length ys) xs
  unfolding overwrite
  overwrite-split = sym (append_assoc (take at xs) ys (drop (at + length ys) xs))

  -- a write keeps the length
  pub overwrite-length : length (overwrite xs at ys) ≡ length xs
  overwrite-length =
      ap length overwrite-split
      ∙ omega (arith, length-append (take at xs ++ ys) (drop (at + length ys) xs), head-length, length-drop (at + length ys) xs)

  -- what is before the write stays
  pub overwrite-take : take at (overwrite xs at ys) ≡ take at xs
  unfolding overwrite
  overwrite-take = take_at (take at xs) (ys ++ drop (at + length ys) xs) at (length-take-le at xs (omega arith))

  -- from `at` on stands what is written, and then what was there
  pub overwrite-from : drop at (overwrite xs at ys) ≡ ys ++ drop (at + length ys) xs
  unfolding overwrite
  overwrite-from = drop_at (take at xs) (ys ++ drop (at + length ys) xs) at (length-take-le at xs (omega arith))

  -- what is written stands where it was to stand
  pub overwrite-part : take (length ys) (drop at (overwrite xs at ys)) ≡ ys
  overwrite-part = ap (take (length ys)) overwrite-from ∙ take_at ys (drop (at + length ys) xs) (length ys) refl

  -- up to the end of what is written
  pub overwrite-head : take (at + length ys) (overwrite xs at ys) ≡ take at xs ++ ys
  overwrite-head = ap (take (at + length ys)) overwrite-split ∙ take_at (take at xs ++ ys) (drop (at + length ys) xs) (at + length ys) head-length

  -- what is after the write stays
  pub overwrite-drop : drop (at + length ys) (overwrite xs at ys) ≡ drop (at + length ys) xs
  overwrite-drop = ap (drop (at + length ys)) overwrite-split ∙ drop_at (take at xs ++ ys) (drop (at + length ys) xs) (at + length ys) head-length

  pub overwrite-drop-more : (n : ℕ) → drop (at + length ys + n) (overwrite xs at ys) ≡ drop (at + length ys + n) xs
  overwrite-drop-more n =
      sym (drop-drop n (at + length ys) (overwrite xs at ys))
      ∙ ap (drop n) overwrite-drop
      ∙ drop-drop n (at + length ys) xs

-- two writes, the second where the first ends, are one
pub overwrite-append : (xs : List ℕ) (at : ℕ) (ys zs : List ℕ) → at + length (ys ++ zs) ≤ length xs
    → overwrite (overwrite xs at ys) (at + length ys) zs ≡ overwrite xs at (ys ++ zs)
unfolding overwrite
overwrite-append xs at ys zs fits =
    let size : length (ys ++ zs) ≡ length ys + length zs = length-append ys zs in
    let first : at + length ys ≤ length xs = omega arith in
    let end : at + length ys + length zs ≡ at + length (ys ++ zs) = omega arith in
    let rest : List ℕ = drop (at + length (ys ++ zs)) xs in
    ap (λ (l : List ℕ). l ++ (zs ++ drop (at + length ys + length zs) (overwrite xs at ys))) (overwrite-head xs at ys first)
    ∙ ap (λ (l : List ℕ). (take at xs ++ ys) ++ (zs ++ l)) (overwrite-drop-more xs at ys first (length zs) ∙ ap (λ (k : ℕ). drop k xs) end)
    ∙ append_assoc (take at xs) ys (zs ++ rest)
    ∙ ap (λ (l : List ℕ). take at xs ++ l) (sym (append_assoc ys zs rest))

-- the same, of what two calls leave: `mid` and then `out`, the second from `from` on
pub overwrite-then : (xs : List ℕ) (at : ℕ) (ys zs : List ℕ) {mid out : List ℕ} {from : ℕ} → at + length (ys ++ zs) ≤ length xs
    → mid ≡ overwrite xs at ys → from ≡ at + length ys → out ≡ overwrite mid from zs → out ≡ overwrite xs at (ys ++ zs)
overwrite-then xs at ys zs {mid} {out} {from} fits first place second =
    second
    ∙ ap (λ (m : List ℕ). overwrite m from zs) first
    ∙ ap (λ (k : ℕ). overwrite (overwrite xs at ys) k zs) place
    ∙ overwrite-append xs at ys zs fits

-- a write of one byte is a store
pub overwrite-one : (xs : List ℕ) (at b : ℕ) → at < length xs → set xs at b ≡ overwrite xs at (b ∷ [])
unfolding overwrite
overwrite-one xs at b h = set_split xs at b h ∙ ap (λ (k : ℕ). take at xs ++ (b ∷ drop k xs)) (sym (add-one at))

-- a store just after the place of ys, and then ys, is a write of both
pub overwrite-last : (xs : List ℕ) (at : ℕ) (ys : List ℕ) (b : ℕ) → at + length ys < length xs
    → overwrite (set xs (at + length ys) b) at ys ≡ overwrite xs at (ys ++ (b ∷ []))
unfolding overwrite
overwrite-last xs at ys b h =
    let i : ℕ = at + length ys in
    let stored : i < length (set xs i b) = omega (arith, length-set xs i b) in
    let end : suc i ≡ at + length (ys ++ (b ∷ [])) = omega (arith, length-append ys (b ∷ [])) in
    let after : drop i (set xs i b) ≡ b ∷ drop (suc i) xs =
    drop-cons (set xs i b) i 0 stored
    ∙ ap (λ (y : ℕ). y ∷ drop (suc i) (set xs i b)) (get_or-set_same xs i b 0 h)
    ∙ ap (λ (l : List ℕ). b ∷ l) (drop-set-lt (suc i) xs i b (omega arith)) in
    ap (λ (l : List ℕ). l ++ (ys ++ drop i (set xs i b))) (take-set-le at xs i b (omega arith))
    ∙ ap (λ (l : List ℕ). take at xs ++ (ys ++ l)) (after ∙ ap (λ (k : ℕ). b ∷ drop k xs) end)
    ∙ ap (λ (l : List ℕ). take at xs ++ l) (sym (append_assoc ys (b ∷ []) (drop (at + length (ys ++ (b ∷ []))) xs)))

-- ---- a copy of all bytes

-- a whole copy is a write
pub copy-all : (xs : List ℕ) (at : ℕ) (ys : List ℕ) (n : ℕ) → n ≡ length ys → paste xs at ys n ≡ overwrite xs at ys
unfolding overwrite
copy-all xs at ys n e =
    ap (paste xs at ys) e
    ∙ ap (λ (l : List ℕ). take at xs ++ l ++ drop (at + length ys) xs) (take-length ys)
    ∙ append_assoc (take at xs) ys (drop (at + length ys) xs)
