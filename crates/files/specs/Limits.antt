-- Document 01, 'Front file, form 1': the sizes of a file.
use Rattle.std.specs.Prelude.{ℕ, ◌*◌}
use Rattle.blocks.specs.Fields.{block_len}

-- At most 87 blocks,
abbrev pub max_blocks : ℕ
max_blocks = 87

-- which are 44,544 bytes.
abbrev pub max_file : ℕ
max_file = max_blocks * block_len

-- A point block holds 12 points
abbrev pub block_points : ℕ
block_points = 12

-- of 40 bytes.
abbrev pub point_len : ℕ
point_len = 40
