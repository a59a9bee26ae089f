-- What is wanted under caps.
use Rattle.std.specs.Prelude.{List, ℕ, ◌≤◌, ◌<◌, length, get_or}
use Rattle.charging.specs.declared.rows.Cost.{Cost}
use Rattle.charging.specs.declared.rows.Rows.{Rows}
use Rattle.charging.specs.Rows.{cost, costs_of}
use Rattle.charging.specs.Meets.{Meets}
use Rattle.forcing.specs.declared.goals.Goal.{Goal}

-- How many objectives there are, the costs of objective i, and its cap.
abbrev pub many : Goal → ℕ
many goal = length goal.caps.now

abbrev pub objective : Goal → ℕ → List Cost
objective goal i = costs_of goal.rows.n goal.costs.now i

abbrev pub cap_of : Goal → ℕ → ℕ
cap_of goal i = get_or goal.caps.now i 0

-- x meets the rows, and costs at most m.
pub record Under (rows : Rows) (costs : List Cost) (m : ℕ) (x : ℕ → ℕ) : Type 0 where
  pub meets : Meets rows x
  pub under : cost costs x ≤ m

-- x meets the rows, and costs at most the cap by each objective.
pub record Wanted (goal : Goal) (x : ℕ → ℕ) : Type 0 where
  pub meets : Meets goal.rows x
  pub under : (i : ℕ) → i < many goal → cost (objective goal i) x ≤ cap_of goal i
