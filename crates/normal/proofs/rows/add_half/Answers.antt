-- The terms, the need and the next start are stored just after what stands there (grown-half).
use mathlib.Core.Path.{◌≡◌, subst}
use native.Mathlib.Omega.{arith}
use lib.IntN.{ℤ}
use mir.Syntax.{w64}
use mir.Val.{to_z, of_z}
use Rattle.std.proofs.Common.{rules}
use Rattle.normal.specs.Halves.{need_by}
use Rattle.normal.proofs.AddLaws.{lost-all-le, grown-half}
use Rattle.normal.proofs.rows.add_half.Goals as goal

pub need_of-requires-clause-lost_le_max_bound : goal.need_of-requires-clause-lost_le_max_bound
need_of-requires-clause-lost_le_max_bound c =
    omega (arith, c.put_half-lost.ensures.lost, lost-all-le c.args.terms.now c.args.e.first c.args.e.count c.args.turn c.requires.terms_ok, c.requires.count_bound)

pub returns : goal.returns
returns c =
    let e : to_z w64 (of_z w64 c.args.e.bound) ≡ c.args.e.bound = Prim.search rules in
    grown-half c.args.terms.now c.args.e.first c.args.e.count c.args.turn c.args.e.bound c.requires.rooms c.put_half-lost.ensures
    (subst (λ (z : ℤ). c.need_of.result ≡ need_by c.args.turn z c.put_half-lost.result) e c.need_of.ensures)
