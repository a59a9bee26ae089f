-- Where no test refuses, the file is sound and the head is that of block 0.
use mathlib.Core.Path.{sym, ap, ◌∙◌}
use native.Mathlib.Omega.{arith}
use borrow.Author.Tests.{eqb-false}
use lib.ListN.{length}
use Rattle.files.specs.Structs.{head_of}
use Rattle.files.proofs.read.check_file.Goals as goal

pub returns : goal.returns
returns c =
    let some = eqb-false (length c.args.file.now) 0 (sym c.is_empty.ensures ∙ c.if-is_empty.false) in (
      c.of-head.ensures ∙ ap head_of (c.blocks_of.ensures.each 0 (omega (arith, some, c.if-file-ne0.false))),
      record {
        sized = record { some = omega (arith, some); whole = c.if-file-ne0.false; most = omega arith };
        checked = c.in_default.ensures;
        laid = c.in_default-first_unlaid.ensures;
      },
    )
