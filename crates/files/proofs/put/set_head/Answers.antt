-- A block that was begun, with the head's numbers, sealed.
use mathlib.Core.Path.{sym, ap, subst, ◌∙◌}
use mathlib.Core.List.{List}
use Prim.Native.Nat.{ℕ}
use Rattle.blocks.specs.Fields.{put}
use Rattle.blocks.specs.Check.{check_of}
use Rattle.files.specs.Structs.{HeadOf}
use Rattle.files.proofs.PutLaws.{head-put}
use Rattle.files.proofs.put.set_head.Goals as goal

pub returns : goal.returns
returns c =
    let e3 = c.set-3.ensures ∙ ap (λ (b : List ℕ). put 2 b 12 c.args.head.n) (c.set-2.ensures ∙ ap (λ (b : List ℕ). put 2 b 10 c.args.head.objectives) c.set.ensures) in
    let e4 = c.set-4.ensures ∙ ap (λ (b : List ℕ). put 4 b 16 c.args.head.points) e3 in
    let e = c.seal.ensures ∙ ap (λ (b : List ℕ). put 2 b 0 (check_of b)) e4 in
    subst (HeadOf c.args.head.objectives c.args.head.n c.args.head.points) (sym e)
    (head-put c.begin.new.block c.begin.ensures c.args.head.objectives c.args.head.n c.args.head.points c.requires.objectives_bound c.requires.n_bound c.requires.points_bound)
