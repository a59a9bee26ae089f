-- Document 01, 'Sizes' and 'The front': the limits of a list of points. The code names them as constants of Point.
use Rattle.std.specs.Prelude.{ℕ}
use Rattle.instance.specs.Limits.{max_objectives, max_variable, max_bound}

-- A point is four values, one for each objective that there can be.
abbrev pub point_values : ℕ
point_values = max_objectives

-- At most 1,024 points.
abbrev pub max_points : ℕ
max_points = 1024

-- An assignment has 64 bits at most.
abbrev pub max_bits : ℕ
max_bits = max_variable

-- Values are within 4,096,000,000 of zero, as every sum is.
abbrev pub max_value : ℕ
max_value = max_bound
