-- The first k costs as slices, which compare in order.
use native.Mathlib.Omega.{arith}
use Rattle.seeking.proofs.SliceLaws.{slice-yes, slice-no}
use Rattle.seeking.proofs.vectors.earlier.Goals as goal

pub returns-clause-yes : goal.returns-clause-yes
returns-clause-yes g c = slice-yes c.args.k c.args.f.now c.args.h.now (omega arith) (omega arith) c.lt.result c.lt.ensures

pub returns-clause-no : goal.returns-clause-no
returns-clause-no g c = slice-no c.args.k c.args.f.now c.args.h.now (omega arith) (omega arith) c.lt.result c.lt.ensures
