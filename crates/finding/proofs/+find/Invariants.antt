-- Reducing loses nothing that is wanted; a complete part is judged; else every completion is below one of the two children.
-- What falls: the number of unset variables, by at least one at each child.
use Rattle.finding.proofs.+find.Given as goal

abbrev pub decreases-find : goal.decreases-find
decreases-find l = l.p.left
