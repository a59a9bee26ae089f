-- Document 01, case P11: the file of T is 1,024 bytes with checks FFF6 and FFE8. Both blocks are made by the laws of stores, and computed.
use mathlib.Core.Path.{◌≡◌, refl, sym, ap, subst, ◌∙◌}
use mathlib.Core.Bool.{Bool, true, false, ◌&&◌}
use mathlib.Core.List.{List, [], ◌∷◌, ◌++◌}
use Prim.Native.Nat.{ℕ, zero, suc, ◌+◌, ◌-◌, ◌*◌}
use native.Mathlib.Omega.{arith}
use lib.Dec.{T, ltb}
use lib.IntN.{ℤ, pos}
use lib.ListN.{length, replicate}
use borrow.Author.Tests.{ltb-true}
use Rattle.blocks.specs.Fields.{u16_at, number_at, put}
use Rattle.blocks.specs.Check.{check_of, word_sum}
use Rattle.blocks.proofs.ByteLaws.{Bytes}
use Rattle.points.specs.Lists.{point_at}
use Rattle.files.specs.Layout.{block_at, count_in}
use Rattle.files.specs.Structs.{HeadOf, PointsOf}
use Rattle.files.specs.Put.{Begun}
use Rattle.files.specs.Written.{WrittenAs}
use Rattle.files.proofs.PutLaws.{begun, head-put}
use Rattle.files.proofs.PointLaws.{s5, vector-fits, point-put, points_none, points-more, points-sealed}
use Rattle.files.proofs.WriteLaws.{file-of}
use Rattle.std.specs.Prelude.{Ok}
use Rattle.files.proofs.FileLaws.{blocks-unique}

-- Runs that begin with the list of T, (1,4) by 2 and (5,3) by 5, whatever comes after it.
abbrev pub values_t : List ℤ → List ℤ
values_t more = pos 1 ∷ (pos 4 ∷ (pos 0 ∷ (pos 0 ∷ (pos 5 ∷ (pos 3 ∷ (pos 0 ∷ (pos 0 ∷ more)))))))

abbrev pub models_t : List ℕ → List ℕ
models_t more = 2 ∷ (5 ∷ more)

-- Its two blocks.
abbrev start : ℕ → ℕ → List ℕ
start kind number = put 4 (put 2 (replicate 512 0) 2 kind) 4 number

abbrev sealed : List ℕ → List ℕ
sealed q = put 2 q 0 (check_of q)

abbrev head_t : List ℕ
head_t = sealed (put 4 (put 2 (put 2 (put 2 (start 1 0) 8 1) 10 2) 12 3) 16 2)

abbrev first_t : List ℕ
first_t = s5 (start 2 1) (8 + 0 * 40) 1 4 0 0 2

abbrev both_t : List ℕ
both_t = s5 first_t (8 + 1 * 40) 5 3 0 0 5

abbrev points_t : List ℕ
points_t = sealed both_t

head-of : HeadOf 2 3 2 head_t
head-of = head-put (start 1 0) (begun 512 1 0 refl (omega arith) (omega arith)) 2 3 2 (omega arith) (omega arith) (omega arith)

points-of : (us : List ℤ) (ls : List ℕ) → PointsOf 1 0 2 (values_t us) (models_t ls) points_t
points-of us ls =
    let vs : List ℤ = values_t us in
    let ms : List ℕ = models_t ls in
    let b : Begun 2 1 (start 2 1) = begun 512 2 1 refl (omega arith) (omega arith) in
    let f1 = vector-fits (pos 1) (pos 4) (pos 0) (pos 0) (omega arith) (omega arith) (omega arith) (omega arith) in
    let f2 = vector-fits (pos 5) (pos 3) (pos 0) (pos 0) (omega arith) (omega arith) (omega arith) (omega arith) in
    let p = point-put (start 2 1) 0 (point_at vs ms 0) b.whole (omega arith) f1 (omega arith) in
    let q = points-more (start 2 1) (start 2 1) first_t 0 0 vs ms (points_none (start 2 1) 0 vs ms) p in
    points-sealed (start 2 1) both_t 1 0 2 vs ms b
    (points-more (start 2 1) first_t both_t 0 1 vs ms q (point-put first_t 1 (point_at vs ms 1) (p.whole ∙ b.whole) (omega arith) f2 (omega arith)))

file_t : List ℕ
file_t = head_t ++ points_t

-- What is computed of the file.
small : List ℕ → Bool
small [] = true
small (x ∷ xs) = ltb x 256 && small xs

and_both : (a b : Bool) → (a && b) ≡ true → (a ≡ true) × (b ≡ true)
and_both true b e = (refl, e)
and_both false b e = absurd (subst T (sym e) tt)

small_bytes : (bs : List ℕ) → small bs ≡ true → Bytes bs
unfolding small
small_bytes [] e i = omega arith
small_bytes (x ∷ xs) e zero = ltb-true x 256 (and_both (ltb x 256) (small xs) e).0
small_bytes (x ∷ xs) e (suc i) = small_bytes xs (and_both (ltb x 256) (small xs) e).1 i

file-small : small file_t ≡ true
unfolding put word_sum small file_t
file-small = refl

file-length : length file_t ≡ 1024
unfolding put word_sum file_t
file-length = refl

block_0 : block_at file_t 0 ≡ head_t
unfolding put word_sum file_t
block_0 = refl

block_1 : block_at file_t 1 ≡ points_t
unfolding put word_sum file_t
block_1 = refl

check-0 : u16_at head_t 0 ≡ 65526
unfolding put word_sum number_at
check-0 = refl

check-1 : u16_at points_t 0 ≡ 65512
unfolding put word_sum number_at
check-1 = refl

-- P11: whatever writing the list of T leaves where it is done, it is 1,024 bytes, with the checks FFF6 and FFE8, whatever the runs hold after
-- the list.
pub record CaseP11 (k : ℕ) (left : List ℕ) : Type 0 where
  pub bytes : k ≡ 1024
  pub head_check : u16_at (block_at left 0) 0 ≡ 65526
  pub points_check : u16_at (block_at left 1) 0 ≡ 65512

pub case-P11 : (us : List ℤ) (ls : List ℕ) {found left : List ℕ} {k : ℕ} → WrittenAs 2 3 2 (values_t us) (models_t ls) found left (Ok k) → Bytes left → CaseP11 k left
case-P11 us ls {left = left} w h =
    let g =
    file-of w.proper file_t (subst (HeadOf 2 3 2) (sym block_0) head-of)
    (λ b s l.
    let e : 1 ≡ b = omega arith in
    subst (λ (j : ℕ). PointsOf j ((j - 1) * 12) (count_in 2 j) (values_t us) (models_t ls) (block_at file_t j)) e (subst (PointsOf 1 0 2 (values_t us) (models_t ls)) (sym block_1) (points-of us ls)))
    in
    let same = blocks-unique left file_t w.file g h (small_bytes file_t file-small) (omega (arith, w.room, w.whole)) (omega (arith, file-length)) in
    record {
      bytes = w.count;
      head_check = ap (λ (l : List ℕ). u16_at l 0) (same 0 (omega arith) ∙ block_0) ∙ check-0;
      points_check = ap (λ (l : List ℕ). u16_at l 0) (same 1 (omega arith) ∙ block_1) ∙ check-1;
    }
