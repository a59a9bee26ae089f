-- Each point block is written into its own 512 bytes. Invariant: the blocks passed are written, the rest is as found.
use Rattle.files.specs.Put.{BlocksPut}
use Rattle.files.proofs.write.set_blocks.Given as goal

abbrev pub invariant-loop-b : goal.invariant-loop-b
invariant-loop-b l = BlocksPut l.initial.file l.list.points l.list.values.now l.list.models.now l.b l.file
