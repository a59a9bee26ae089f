-- Chunk b is block b.
use mathlib.Core.Path.{ap, ◌∙◌}
use mathlib.Core.List.{List, []}
use Prim.Native.Nat.{ℕ, ◌/◌}
use lib.ListN.{length, get_or}
use Rattle.instance.proofs.ChunkLaws.{chunk-at}
use Rattle.files.proofs.layout.blocks_of.Goals as goal

pub returns-clause-each : goal.returns-clause-each
returns-clause-each c b h =
    ap (λ (r : List (List ℕ)). get_or r b []) c.as_chunks.ensures.front ∙ chunk-at 512 (length c.args.file.now / 512) c.args.file.now b h
