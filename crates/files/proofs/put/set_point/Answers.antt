-- Five numbers, one after the other.
use mathlib.Core.Path.{refl, sym, ap, subst, ◌∙◌}
use mathlib.Core.List.{List}
use Prim.Native.Nat.{ℕ, zero, suc, ◌+◌, ◌*◌, ◌<◌}
use native.Mathlib.Omega.{arith}
use lib.IntN.{ℤ, pos}
use lib.ListN.{get_or}
use lib.Signed.{nat_abs-le}
use mir.Syntax.{w64}
use mir.Val.{SFits}
use mir.Facts.{to_z-of_z}
use Rattle.std.proofs.Common.{rules}
use Rattle.blocks.specs.Fields.{put, bits_of}
use Rattle.files.specs.Structs.{candidate_of}
use Rattle.files.specs.Put.{PointPut}
use Rattle.files.proofs.PointLaws.{stored-as, point-put}
use Rattle.files.proofs.put.set_point.Goals.{After-set}
use Rattle.files.proofs.put.set_point.Goals as goal

fits : (c : After-set) (i : ℕ) → i < 4 → SFits w64 (get_or c.args.point.values i (pos 0))
fits c zero h = search rules
fits c (suc zero) h = search rules
fits c (suc (suc zero)) h = search rules
fits c (suc (suc (suc zero))) h = search rules
fits c (suc (suc (suc (suc i)))) h = absurd (omega arith)

pub returns : goal.returns
returns c =
    let at = 8 + c.args.j * 40 in
    let value : ℕ → ℤ = λ i. get_or c.args.point.values i (pos 0) in
    let same = λ (i : ℕ) (h : i < 4). to_z-of_z {w = w64} {z = get_or c.args.point.values i (pos 0)} (fits (goal.at.returns c).After-set i h) in
    let b1 : List ℕ = put 8 c.args.block.now at (bits_of (value 0)) in
    let e1 = stored-as c.args.block.now at (value 0) (same 0 (omega arith)) refl c.set_signed.ensures in
    let b2 : List ℕ = put 8 b1 (at + 8) (bits_of (value 1)) in
    let e2 = stored-as b1 (at + 8) (value 1) (same 1 (omega arith)) e1 c.set_signed-2.ensures in
    let b3 : List ℕ = put 8 b2 (at + 16) (bits_of (value 2)) in
    let e3 = stored-as b2 (at + 16) (value 2) (same 2 (omega arith)) e2 c.set_signed-3.ensures in
    let b4 : List ℕ = put 8 b3 (at + 24) (bits_of (value 3)) in
    let e4 = stored-as b3 (at + 24) (value 3) (same 3 (omega arith)) e3 c.set_signed-4.ensures in
    let e = c.set.ensures ∙ ap (λ (b : List ℕ). put 8 b (at + 32) c.args.point.model) e4 in
    subst (PointPut c.args.block.now c.args.j (candidate_of c.args.point)) (sym e)
    (point-put c.args.block.now c.args.j (candidate_of c.args.point) c.requires.block_len c.requires.j_bound (λ i h. nat_abs-le (value i) (fits (goal.at.returns c).After-set i h).sfits) (omega arith))
