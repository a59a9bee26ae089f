-- The list is tried, then the room; the head and the point blocks make up its file.
use mathlib.Core.Path.{◌≡◌, sym, ap, ◌∙◌}
use Prim.Native.Nat.{ℕ, ◌*◌}
use native.Mathlib.Omega.{arith}
use lib.ListN.{length, take}
use lib.Seq.{length-take-le}
use Rattle.instance.proofs.TestLaws.{accepted}
use Rattle.points.specs.Lists.{Proper}
use Rattle.files.proofs.WriteLaws.{written_all}
use Rattle.files.proofs.write.write_file.Goals.{Else-file-bytes, Else-not-is_proper}
use Rattle.files.proofs.write.write_file.Goals as goal

proper : (c : Else-not-is_proper) → Proper c.args.objectives c.args.n c.args.points c.args.values.now c.args.models.now
proper c = accepted c.is_proper.ensures c.if-not-is_proper.false

first_block : (c : Else-file-bytes) → length (take 512 c.args.file.now) ≡ 512
first_block c = length-take-le 512 c.args.file.now (omega (arith, c.blocks_for-bytes.ensures))

pub slice_bounds-set_head-end-2 : goal.slice_bounds-set_head-end-2
slice_bounds-set_head-end-2 c = sym (first_block (goal.at.slice_bounds-set_head-end-2 c).Else-file-bytes)

pub set_head-requires-clause-block_len : goal.set_head-requires-clause-block_len
set_head-requires-clause-block_len c = first_block (goal.at.set_head-requires-clause-block_len c).Else-file-bytes

pub returns : goal.returns
returns c =
    written_all c.args.file.now c.set_head.new.block c.set_blocks.new.file _ (proper ((goal.at.returns c).Else-not-is_proper)) (omega (arith, c.blocks_for-bytes.ensures)) (c.set_head.auto.block ∙ first_block ((goal.at.returns c).Else-file-bytes)) c.set_head.ensures c.set_blocks.ensures (ap (λ (k : ℕ). k * 512) c.blocks_for-bytes.ensures)
