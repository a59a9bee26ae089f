-- Invariant: the number so far is that of the bytes passed, and they bound it.
use mathlib.Core.Path.{◌≡◌}
use Prim.Native.Nat.{◌<◌, ◌^◌}
use Rattle.blocks.specs.Fields.{number_at}
use Rattle.blocks.proofs.fields.get.Given as goal

abbrev pub invariant-loop-byte : goal.invariant-loop-byte
invariant-loop-byte g l = (l.number ≡ number_at l.byte-index l.block l.at) × (l.number < 256 ^ l.byte-index)
