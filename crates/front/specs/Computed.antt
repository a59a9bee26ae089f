-- The front of an instance computed by trying every assignment: for small instances, and so that every instance has a front.
use Rattle.std.specs.Prelude.{List, ◌^◌, eqb, ltb}
use Rattle.instance.specs.Meaning.{Instance, vector}
use Rattle.judge.specs.Judging.{first_unmet, padded}
use Rattle.points.specs.Fronts.{Candidate}
use Rattle.points.specs.Computed.{front_below}

-- The front, assignment after assignment.
abbrev pub front_of : Instance → List Candidate
front_of i = front_below (λ a. eqb (first_unmet i.rows a) 0) (λ a. padded (vector i a)) ltb (2 ^ i.variables)
