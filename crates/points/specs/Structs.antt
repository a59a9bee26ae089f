-- The limits that the code names, as those of Limits.
use Rattle.instance.specs.Limits.{max_objectives}
use Rattle.points.specs.Limits.{point_values, max_points, max_bits, max_value}
use Rattle.points.specs.declared.limits.Limits.{Limits}

-- The limits of Limits, as the code has them.
abbrev pub limits_named : Limits
limits_named = record { objectives = max_objectives; values = point_values; points = max_points; bits = max_bits; value = max_value }
