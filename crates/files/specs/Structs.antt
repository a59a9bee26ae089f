-- The sizes that the code names, as those of Limits; and what the code's smaller functions promise.
use Rattle.std.specs.Prelude.{◌≡◌, Option, None, Some, List, ℕ, ◌+◌, ◌*◌, ◌<◌, ℤ, pos, get_or}
use Rattle.points.specs.Limits.{max_points, point_values}
use Rattle.blocks.specs.Fields.{u64_at, bits_of}
use Rattle.blocks.specs.Check.{CheckFits}
use Rattle.files.specs.Limits.{max_blocks, max_file, block_points, point_len}
use Rattle.files.specs.Layout.{HeadFits, PointsFit, objectives_of, variables_of, points_of, blocks_for}
use Rattle.points.specs.Fronts.{Candidate}
use Rattle.points.specs.Lists.{point_at}
use Rattle.points.specs.declared.point.Point.{Point}
use Rattle.files.specs.declared.sizes.Kind.{Kind}
use Rattle.files.specs.declared.sizes.Kind.TheVariants.{Head, Points}
use Rattle.files.specs.declared.sizes.Sizes.{Sizes}
use Rattle.files.specs.declared.read.FileHead.{FileHead}

-- The sizes of Limits, as the code has them.
abbrev pub sizes_named : Sizes
sizes_named = record { blocks = max_blocks; bytes = max_file; held = block_points; point = point_len; values = max_points * point_values; models = max_points }

-- The number of a kind in a block.
abbrev pub kind_code : Kind → ℕ
kind_code Head = 1
kind_code Points = 2

-- A point as a candidate for a front.
abbrev pub candidate_of : Point → Candidate
candidate_of p = record { vector = p.values; model = p.model }

-- The answer is the first of the numbers below n that P does not hold of; none where it holds of all.
abbrev pub FirstNot : (ℕ → Type 0) → ℕ → Option ℕ → Type 0
FirstNot P n None = (j : ℕ) → j < n → P j
FirstNot P n (Some b) = (b < n) × ((P b → ⊥) × ((j : ℕ) → j < b → P j))

-- A head with its three numbers, checked.
pub record HeadOf (objectives n points : ℕ) (h : List ℕ) : Type 0 where
  pub fits : HeadFits h (blocks_for points)
  pub checked : CheckFits h
  pub has_objectives : objectives_of h ≡ objectives
  pub has_variables : variables_of h ≡ n
  pub has_points : points_of h ≡ points

-- Place j of a block holds a point.
pub record PointIn (p : List ℕ) (j : ℕ) (c : Candidate) : Type 0 where
  pub values : (i : ℕ) → i < 4 → u64_at p (8 + j * point_len + i * 8) ≡ bits_of (get_or c.vector i (pos 0))
  pub model : u64_at p (8 + j * point_len + 32) ≡ c.model

-- A checked point block with number b and so many points of the runs from `first` on.
pub record PointsOf (b first count : ℕ) (vs : List ℤ) (ms : List ℕ) (p : List ℕ) : Type 0 where
  pub fits : PointsFit p b count
  pub checked : CheckFits p
  pub points : (j : ℕ) → j < count → PointIn p j (point_at vs ms (first + j))

-- The three numbers of a head, as the code has them.
abbrev pub head_of : List ℕ → FileHead
head_of h = record { objectives = objectives_of h; n = variables_of h; points = points_of h }
