-- `all` over the pairs is the test of each pair in turn.
use mathlib.Core.Path.{◌∙◌}
use native.Mathlib.Omega.{arith}
use lib.IntN.{ℤ}
use lib.Signed.{le_z}
use Rattle.std.proofs.Common.{rules, tests}
use Rattle.std.proofs.lemmas.Iterator.{YieldsList-from_slice, YieldsList-from_zip}
use Rattle.std.proofs.lemmas.Iterator.Search.{all_from_yields_List}
use Rattle.points.proofs.CompareLaws.{le_all-zip}
use Rattle.points.proofs.vectors.le_all.Goals as goal

pub returns : goal.returns
returns c =
    all_from_yields_List (λ (p : ℤ × ℤ). le_z p.0 p.1) c.all.new.self _ c.all.result c.all.ensures.ran
    (YieldsList-from_zip (YieldsList-from_slice c.args.a.now cc) (YieldsList-from_slice c.args.b.now cc)) (λ x r q k. search (rules, tests))
    ∙ le_all-zip c.args.a.now c.args.b.now (omega arith)
