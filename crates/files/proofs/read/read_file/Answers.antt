-- A sound file has the blocks of its points.
use mathlib.Core.Path.{sym, subst}
use Prim.Native.Nat.{◌*◌, ◌≤◌}
use lib.ListN.{length}
use Rattle.files.specs.declared.read.FileHead.{FileHead}
use Rattle.files.specs.Layout.{blocks_for}
use Rattle.files.proofs.ReadLaws.{sound-room}
use Rattle.files.proofs.read.read_file.Goals as goal

pub is_proper_list-requires : goal.is_proper_list-requires
is_proper_list-requires c =
    subst (λ (h : FileHead). blocks_for h.points * 512 ≤ length c.args.file.now) (sym c.in_ok-head.ensures.0) (sound-room c.in_ok-head.ensures.1)

pub take_points-requires-clause-points_in_bounds : goal.take_points-requires-clause-points_in_bounds
take_points-requires-clause-points_in_bounds c =
    subst (λ (h : FileHead). blocks_for h.points * 512 ≤ length c.args.file.now) (sym c.in_ok-head.ensures.0) (sound-room c.in_ok-head.ensures.1)
