-- Where reducing finds nothing wanted the stock stays; a complete part is judged by leaf; else what is wanted is below one of the two children,
-- and the second search begins with what the first has gathered. What falls: the number of unset variables, by at least one at each child.
use Rattle.seeking.proofs.+search.Given as goal

abbrev pub decreases-search : goal.decreases-search
decreases-search g l = l.p.left
