-- Document 01, 'Front file, form 1': what a file means, block by block. Numbers are big-endian.
use Rattle.std.specs.Prelude.{◌≡◌, List, [], ◌∷◌, length, ℕ, zero, suc, ◌+◌, ◌-◌, ◌*◌, ◌/◌, ◌%◌, ◌<◌, min, ℤ, pos, get_or, take, drop}
use Rattle.instance.specs.Lists.{tabulate}
use Rattle.blocks.specs.Fields.{block_len, u16_at, u32_at, u64_at, signed_of, ZeroBytes}
use Rattle.blocks.specs.Check.{CheckFits}
use Rattle.files.specs.Limits.{block_points, point_len}

-- Block b, counted from 0: 512 bytes of the file.
abbrev pub block_at : List ℕ → ℕ → List ℕ
block_at f b = take block_len (drop (b * block_len) f)

-- The whole blocks of a file.
abbrev pub blocks_in : List ℕ → ℕ
blocks_in f = length f / block_len

-- The blocks of a list: the head, and point blocks that are full but the last. No points: head only.
abbrev pub blocks_for : ℕ → ℕ
blocks_for points = 1 + (points + 11) / block_points

-- The points that block b holds, of so many in all: 12, but the last what is left.
abbrev pub count_in : ℕ → ℕ → ℕ
count_in points b = min block_points (points - (b - 1) * block_points)

-- ---- the head: 2-3 kind 1, 4-7 number 0, 8-9 form 1, 10-11 objectives, 12-13 n, 14-15 zero, 16-19 points, rest zero
abbrev pub objectives_of : List ℕ → ℕ
objectives_of h = u16_at h 10

abbrev pub variables_of : List ℕ → ℕ
variables_of h = u16_at h 12

abbrev pub points_of : List ℕ → ℕ
points_of h = u32_at h 16

-- The head is laid out so, and its points take as many blocks as there are.
pub record HeadFits (h : List ℕ) (blocks : ℕ) : Type 0 where
  pub kind : u16_at h 2 ≡ 1
  pub number : u32_at h 4 ≡ 0
  pub form : u16_at h 8 ≡ 1
  pub spare : u16_at h 14 ≡ 0
  pub rest : ZeroBytes h 20 block_len
  pub total : blocks_for (points_of h) ≡ blocks

-- ---- a point block: 2-3 kind 2, 4-7 its number, points of 40 bytes from 8 on, rest zero
pub record PointsFit (p : List ℕ) (b count : ℕ) : Type 0 where
  pub kind : u16_at p 2 ≡ 2
  pub number : u32_at p 4 ≡ b
  pub rest : ZeroBytes p (8 + count * point_len) block_len

-- Block b of a file of so many blocks, whose head has so many points, is laid out as it should be.
abbrev pub BlockLaid : List ℕ → ℕ → ℕ → ℕ → Type 0
BlockLaid block blocks points zero = HeadFits block blocks
BlockLaid block blocks points (suc b) = PointsFit block (suc b) (count_in points (suc b))

-- So is block b of the file.
abbrev pub BlockFits : List ℕ → ℕ → ℕ → Type 0
BlockFits f blocks b = BlockLaid (block_at f b) blocks (points_of (block_at f 0)) b

-- Its check fits.
abbrev pub BlockChecked : List ℕ → ℕ → Type 0
BlockChecked f b = CheckFits (block_at f b)

-- ---- points: point k stands in block k / 12 + 1, at place k % 12; four values in two's complement, then the assignment
abbrev pub place_of : ℕ → ℕ
place_of k = 8 + k % block_points * point_len

-- Number i of the values: value i % 4 of point i / 4.
abbrev pub value_in : List ℕ → ℕ → ℤ
value_in f i = signed_of (u64_at (block_at f (i / 4 / block_points + 1)) (place_of (i / 4) + i % 4 * 8))

-- The assignment of point k.
abbrev pub model_in : List ℕ → ℕ → ℕ
model_in f k = u64_at (block_at f (k / block_points + 1)) (place_of k + 32)

-- The values of point k.
abbrev pub values_of : List ℕ → ℕ → List ℤ
values_of f k = value_in f (k * 4) ∷ (value_in f (k * 4 + 1) ∷ (value_in f (k * 4 + 2) ∷ (value_in f (k * 4 + 3) ∷ [])))

-- The values and the assignments of so many points.
abbrev pub values_in : List ℕ → ℕ → List ℤ
values_in f points = tabulate (value_in f) 0 (points * 4)

abbrev pub models_in : List ℕ → ℕ → List ℕ
models_in f points = tabulate (model_in f) 0 points

-- ---- the file of a list
-- f begins with the file of the first `points` points of the runs: each block is checked and laid out, the head has the three numbers, and
-- the points stand in their places.
pub record FileOf (objectives n points : ℕ) (vs : List ℤ) (ms : List ℕ) (f : List ℕ) : Type 0 where
  pub checked : (b : ℕ) → b < blocks_for points → BlockChecked f b
  pub laid : (b : ℕ) → b < blocks_for points → BlockFits f (blocks_for points) b
  pub head_objectives : objectives_of (block_at f 0) ≡ objectives
  pub head_variables : variables_of (block_at f 0) ≡ n
  pub head_points : points_of (block_at f 0) ≡ points
  pub values : (i : ℕ) → i < points * 4 → value_in f i ≡ get_or vs i (pos 0)
  pub models : (k : ℕ) → k < points → model_in f k ≡ get_or ms k 0
