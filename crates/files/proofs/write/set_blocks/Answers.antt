use mathlib.Core.Path.{◌≡◌, refl, ◌∙◌}
use Prim.Native.Nat.{◌+◌, ◌*◌}
use native.Mathlib.Omega.{arith}
use lib.ListN.{length}
use Rattle.files.proofs.BlockLaws.{part_length}
use Rattle.files.proofs.WriteLaws.{blocks_more}
use Rattle.files.proofs.write.set_blocks.Goals as goal

pub loop-b-preserved : goal.loop-b-preserved
loop-b-preserved c =
    let b = c.loop-b.b in
    let list = c.args.list.now in
    let room = c.blocks_for-b-end.ensures in
    let whole : length c.set_points.new.block ≡ 512 =
    c.set_points.auto.block ∙ part_length c.loop-b.file b (b * 512) (b * 512 + 512) refl refl (omega (arith, room))
    in
    blocks_more c.args.file.now list.points list.values.now list.models.now c.loop-b.file c.set_points.new.block b (omega arith) (omega (arith, room)) whole
    c.loop-b.invariant c.set_points.ensures
