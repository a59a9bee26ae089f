-- Zeros, then the kind and the number.
use mathlib.Core.Path.{sym, ap, ap₂, subst, ◌∙◌}
use mathlib.Core.List.{List}
use Prim.Native.Nat.{ℕ, ◌<◌}
use native.Mathlib.Omega.{arith}
use lib.ListN.{length}
use Rattle.blocks.specs.Fields.{put}
use Rattle.files.specs.declared.sizes.Kind.{Kind}
use Rattle.files.specs.declared.sizes.Kind.TheVariants.{Head, Points}
use Rattle.files.specs.Structs.{kind_code}
use Rattle.files.specs.Put.{Begun}
use Rattle.files.proofs.PutLaws.{begun}
use Rattle.files.proofs.put.begin.Goals as goal

code-small : (k : Kind) → kind_code k < 65536
code-small Head = omega arith
code-small Points = omega arith

pub returns : goal.returns
returns c =
    let zeros = c.fill.ensures.after (λ y e. e) in
    let e = c.set-2.ensures ∙ ap (λ (b : List ℕ). put 4 b 4 c.args.number) (c.set.ensures ∙ ap₂ (λ (b : List ℕ) (k : ℕ). put 2 b 2 k) zeros c.code.ensures) in
    subst (Begun (kind_code c.args.kind) c.args.number) (sym e)
    (begun (length c.args.block.now) (kind_code c.args.kind) c.args.number c.requires.block_len (code-small c.args.kind) c.requires.number_bound)
