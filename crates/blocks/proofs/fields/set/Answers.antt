-- The lowest N of the eight bytes of the number go to their place.
use mathlib.Core.Path.{◌≡◌, sym, ap, ap₂, ◌∙◌}
use mathlib.Core.List.{List, ◌++◌}
use Prim.Native.Nat.{ℕ, ◌+◌, ◌-◌}
use native.Mathlib.Omega.{arith}
use lib.ListN.{length, take, drop}
use lib.Seq.{take-length}
use Rattle.std.specs.Int.{bytes_high_first}
use Rattle.std.proofs.lemmas.List.{drop-drop}
use Rattle.blocks.proofs.FieldLaws.{put-bytes, bytes-length, bytes-tail}
use Rattle.blocks.proofs.fields.set.Goals as goal

pub returns : goal.returns
returns g c =
    let bs = c.args.block.now in
    let n = g.row.N in
    let m = c.args.at + n - c.args.at in
    let e : c.args.at + m ≡ c.args.at + n = omega arith in
    let d : 8 - n + n ≡ 8 = omega (arith, c.requires.width) in
    let lowest : drop (8 - n) c.to_be_bytes.result ≡ bytes_high_first n c.args.number =
    ap (drop (8 - n)) (c.to_be_bytes.ensures ∙ ap (λ (k : ℕ). bytes_high_first k c.args.number) (sym d)) ∙ bytes-tail (8 - n) n c.args.number
    in
    let k : 8 - (8 - n) ≡ length (bytes_high_first n c.args.number) = omega (arith, c.requires.width, bytes-length n c.args.number) in
    let stored : c.copy_from_slice.new.self ≡ bytes_high_first n c.args.number =
    c.copy_from_slice.ensures.after ∙ (ap₂ (λ (i : ℕ) (l : List ℕ). take i l) k lowest ∙ take-length (bytes_high_first n c.args.number))
    in
    ap₂ (λ (x y : List ℕ). take c.args.at bs ++ (x ++ y)) stored (drop-drop m c.args.at bs ∙ ap (λ (k : ℕ). drop k bs) e)
    ∙ sym (put-bytes n bs c.args.at c.args.number c.requires.at_in_bounds)
