-- What the writers of parts of a block leave.
use Rattle.std.specs.Prelude.{◌≡◌, List, ℕ, ◌+◌, ◌-◌, ◌*◌, ◌≤◌, ◌<◌, ℤ, length, drop}
use Rattle.blocks.specs.Fields.{block_len, byte_at, u16_at, u32_at, ZeroBytes}
use Rattle.points.specs.Fronts.{Candidate}
use Rattle.points.specs.Lists.{point_at}
use Rattle.files.specs.Limits.{block_points, point_len}
use Rattle.files.specs.Layout.{block_at, count_in}
use Rattle.files.specs.Structs.{PointIn, PointsOf}

-- A block with its kind and its number, and zeros after them.
pub record Begun (kind number : ℕ) (p : List ℕ) : Type 0 where
  pub whole : length p ≡ block_len
  pub has_kind : u16_at p 2 ≡ kind
  pub has_number : u32_at p 4 ≡ number
  pub zeros : ZeroBytes p 8 block_len

-- q is p with a point written at place j.
pub record PointPut (p : List ℕ) (j : ℕ) (c : Candidate) (q : List ℕ) : Type 0 where
  pub whole : length q ≡ length p
  pub point : PointIn q j c
  pub before : (i : ℕ) → i < 8 + j * point_len → byte_at q i ≡ byte_at p i
  pub after : (i : ℕ) → 8 + (j + 1) * point_len ≤ i → byte_at q i ≡ byte_at p i

-- q is p with so many points of the runs, from `first` on, written from the first place on.
pub record PointsPut (p : List ℕ) (first count : ℕ) (vs : List ℤ) (ms : List ℕ) (q : List ℕ) : Type 0 where
  pub whole : length q ≡ length p
  pub points : (j : ℕ) → j < count → PointIn q j (point_at vs ms (first + j))
  pub before : (i : ℕ) → i < 8 → byte_at q i ≡ byte_at p i
  pub after : (i : ℕ) → 8 + count * point_len ≤ i → byte_at q i ≡ byte_at p i

-- g is f with the point blocks below `end` written; the head and all from block `end` on are as found.
pub record BlocksPut (f : List ℕ) (points : ℕ) (vs : List ℤ) (ms : List ℕ) (end : ℕ) (g : List ℕ) : Type 0 where
  pub whole : length g ≡ length f
  pub written : (b : ℕ) → 1 ≤ b → b < end → PointsOf b ((b - 1) * block_points) (count_in points b) vs ms (block_at g b)
  pub head : block_at g 0 ≡ block_at f 0
  pub rest : drop (end * block_len) g ≡ drop (end * block_len) f
