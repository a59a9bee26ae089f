-- Files of one list: their blocks are equal, and a file is the file of its list whatever stands after it.
use mathlib.Core.Path.{◌≡◌, sym, ap, ap₂, subst, ◌∙◌}
use mathlib.Core.List.{List}
use Prim.Native.Nat.{ℕ, zero, suc, ◌+◌, ◌*◌, ◌/◌, ◌%◌, ◌≤◌, ◌<◌}
use native.Mathlib.Decide.{dec_lt}
use native.Mathlib.Omega.{arith}
use lib.IntN.{ℤ}
use lib.ListN.{length, take, drop, length-take, get_or-eq_default}
use lib.Seq.{get_or-take, length-take-le}
use Rattle.blocks.specs.Fields.{byte_at, u64_at, signed_of, bits_of}
use Rattle.blocks.specs.Check.{CheckFits}
use Rattle.blocks.proofs.ByteLaws.{Bytes, number-small, bits-signed}
use Rattle.files.specs.Layout.{block_at, blocks_for, count_in, place_of, points_of, objectives_of, variables_of, value_in, model_in, HeadFits, PointsFit, BlockFits, FileOf}
use Rattle.files.specs.Written.{bytes_for}
use Rattle.files.proofs.BlockLaws.{block-length}
use Rattle.files.proofs.WriteLaws.{block-byte, block_same}
use Rattle.files.proofs.UniqueLaws.{head-unique, points-unique}

-- ---- bytes of a block
pub block-bytes : (f : List ℕ) (b : ℕ) → Bytes f → Bytes (block_at f b)
block-bytes f b h i = by (dec_lt i 512)
  where
    le : (i < 512 → ⊥) → 512 ≤ i
    le n = omega arith

    by : Dec (i < 512) → byte_at (block_at f b) i < 256
    by (yes l) = subst (λ (x : ℕ). x < 256) (sym (block-byte f b i l)) (h (b * 512 + i))
    by (no l) =
        let e : byte_at (block_at f b) i ≡ 0 = get_or-eq_default (block_at f b) 0 (omega (arith, length-take 512 (drop (b * 512) f), le l)) in
        omega arith

-- ---- where a number of point j of block b + 1 stands
value-place : (f : List ℕ) (b j q : ℕ) → j < 12 → q < 4 → value_in f ((b * 12 + j) * 4 + q) ≡ signed_of (u64_at (block_at f (suc b)) (8 + j * 40 + q * 8))
value-place f b j q h l =
    let i = (b * 12 + j) * 4 + q in
    let k : i / 4 ≡ b * 12 + j = omega arith in
    let e : i / 4 / 12 + 1 ≡ suc b = omega arith in
    let g : place_of (i / 4) + i % 4 * 8 ≡ 8 + j * 40 + q * 8 = omega arith in
    ap₂ (λ (x y : ℕ). signed_of (u64_at (block_at f x) y)) e g

model-place : (f : List ℕ) (b j : ℕ) → j < 12 → model_in f (b * 12 + j) ≡ u64_at (block_at f (suc b)) (8 + j * 40 + 32)
model-place f b j h =
    let k = b * 12 + j in
    let e : k / 12 + 1 ≡ suc b = omega arith in
    let g : place_of k + 32 ≡ 8 + j * 40 + 32 = omega arith in
    ap₂ (λ (x y : ℕ). u64_at (block_at f x) y) e g

-- ---- two files of one list
module _ {o n points : ℕ} {vs : List ℤ} {ms : List ℕ} (f g : List ℕ) (F : FileOf o n points vs ms f) (G : FileOf o n points vs ms g) (hf : Bytes f) (hg : Bytes g)
    (lf : bytes_for points ≤ length f) (lg : bytes_for points ≤ length g) where
  bits-same : (b j q : ℕ) → j < 12 → q < 4 → b * 12 + j < points → u64_at (block_at f (suc b)) (8 + j * 40 + q * 8) ≡ u64_at (block_at g (suc b)) (8 + j * 40 + q * 8)
  bits-same b j q h l m =
      let at = 8 + j * 40 + q * 8 in
      let i = (b * 12 + j) * 4 + q in
      let inside : i < points * 4 = omega arith in
      sym (bits-signed (u64_at (block_at f (suc b)) at) (number-small 8 (block_at f (suc b)) (block-bytes f (suc b) hf) at))
      ∙ (ap bits_of (sym (value-place f b j q h l) ∙ (F.values i inside ∙ (sym (G.values i inside) ∙ value-place g b j q h l)))
      ∙ bits-signed (u64_at (block_at g (suc b)) at) (number-small 8 (block_at g (suc b)) (block-bytes g (suc b) hg) at))

  numbers-same : (b : ℕ) (j q : ℕ) → j < count_in points (suc b) → q < 5 → u64_at (block_at f (suc b)) (8 + j * 40 + q * 8) ≡ u64_at (block_at g (suc b)) (8 + j * 40 + q * 8)
  numbers-same b j q h l = by (dec_lt q 4)
    where
      by : Dec (q < 4) → u64_at (block_at f (suc b)) (8 + j * 40 + q * 8) ≡ u64_at (block_at g (suc b)) (8 + j * 40 + q * 8)
      by (yes t) = bits-same b j q (omega arith) t (omega arith)
      by (no t) =
          let e : 8 + j * 40 + q * 8 ≡ 8 + j * 40 + 32 = omega arith in
          let k = b * 12 + j in
          ap (u64_at (block_at f (suc b))) e
          ∙ (sym (model-place f b j (omega arith))
          ∙ (F.models k (omega arith) ∙ (sym (G.models k (omega arith)) ∙ (model-place g b j (omega arith) ∙ ap (u64_at (block_at g (suc b))) (sym e)))))

  pub blocks-unique : (b : ℕ) → b < blocks_for points → block_at f b ≡ block_at g b
  blocks-unique zero h =
      head-unique (block_at f 0) (block_at g 0) (block-bytes f 0 hf) (block-bytes g 0 hg) (block-length f 0 (omega arith)) (block-length g 0 (omega arith)) (F.laid 0 h) (G.laid 0 h)
      (F.checked 0 h) (G.checked 0 h) (F.head_objectives ∙ sym G.head_objectives) (F.head_variables ∙ sym G.head_variables) (F.head_points ∙ sym G.head_points)
  blocks-unique (suc b) h =
      points-unique (block_at f (suc b)) (block_at g (suc b)) (block-bytes f (suc b) hf) (block-bytes g (suc b) hg) (block-length f (suc b) (omega arith)) (block-length g (suc b) (omega arith))
      (few b) (subst (λ (p : ℕ). PointsFit (block_at f (suc b)) (suc b) (count_in p (suc b))) F.head_points (F.laid (suc b) h))
      (subst (λ (p : ℕ). PointsFit (block_at g (suc b)) (suc b) (count_in p (suc b))) G.head_points (G.laid (suc b) h)) (F.checked (suc b) h) (G.checked (suc b) h) (numbers-same b)
    where
      few : (t : ℕ) → count_in points (suc t) ≤ 12
      few t = omega arith

  -- All bytes of the file are equal.
  pub bytes-unique : (i : ℕ) → i < bytes_for points → byte_at f i ≡ byte_at g i
  bytes-unique i h =
      let b = i / 512 in
      let r = i % 512 in
      let e : b * 512 + r ≡ i = omega arith in
      ap (byte_at f) (sym e)
      ∙ (sym (block-byte f b r (omega arith))
      ∙ (ap (λ (l : List ℕ). byte_at l r) (blocks-unique b (omega arith)) ∙ (block-byte g b r (omega arith) ∙ ap (byte_at g) e)))

-- ---- a file by its blocks
module _ {o n points : ℕ} {vs : List ℤ} {ms : List ℕ} (f g : List ℕ) (same : (b : ℕ) → b < blocks_for points → block_at g b ≡ block_at f b) (F : FileOf o n points vs ms f) where
  first : 0 < blocks_for points
  first = omega arith

  laid_as : (b : ℕ) → b < blocks_for points → BlockFits g (blocks_for points) b
  laid_as zero h = subst (λ (l : List ℕ). HeadFits l (blocks_for points)) (sym (same 0 h)) (F.laid 0 h)
  laid_as (suc b) h =
      subst (λ (l : List ℕ). PointsFit (block_at g (suc b)) (suc b) (count_in (points_of l) (suc b))) (sym (same 0 first))
      (subst (λ (l : List ℕ). PointsFit l (suc b) (count_in (points_of (block_at f 0)) (suc b))) (sym (same (suc b) h)) (F.laid (suc b) h))

  pub file-as : FileOf o n points vs ms g
  file-as = record {
    checked = λ b h. subst CheckFits (sym (same b h)) (F.checked b h);
    laid = laid_as;
    head_objectives = ap objectives_of (same 0 first) ∙ F.head_objectives;
    head_variables = ap variables_of (same 0 first) ∙ F.head_variables;
    head_points = ap points_of (same 0 first) ∙ F.head_points;
    values = λ i h. ap (λ (l : List ℕ). signed_of (u64_at l (place_of (i / 4) + i % 4 * 8))) (same (i / 4 / 12 + 1) (omega arith)) ∙ F.values i h;
    models = λ k h. ap (λ (l : List ℕ). u64_at l (place_of k + 32)) (same (k / 12 + 1) (omega arith)) ∙ F.models k h;
  }

-- The bytes written alone are the file.
pub file-cut : {o n points : ℕ} {vs : List ℤ} {ms : List ℕ} (f : List ℕ) (k : ℕ) → k ≡ bytes_for points → k ≤ length f → FileOf o n points vs ms f → FileOf o n points vs ms (take k f)
file-cut {points = points} f k e l F = file-as f (take k f) same F
  where
    whole : length (take k f) ≡ k
    whole = length-take-le k f l

    same : (b : ℕ) → b < blocks_for points → block_at (take k f) b ≡ block_at f b
    same b h = block_same f (take k f) b (omega arith) (omega (arith, whole)) (λ i m. get_or-take k f (b * 512 + i) 0 (omega arith))
