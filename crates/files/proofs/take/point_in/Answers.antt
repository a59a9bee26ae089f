-- The four values stand one after the other in their place.
use mathlib.Core.Path.{◌≡◌, ap, ap₂, ◌∙◌}
use mathlib.Core.List.{List, [], ◌∷◌}
use Prim.Native.Nat.{ℕ, ◌+◌, ◌*◌, ◌/◌, ◌<◌}
use native.Mathlib.Omega.{arith}
use lib.IntN.{ℤ}
use lib.ListN.{get_or}
use mir.Syntax.{w64}
use Rattle.integers.proofs.SignedLaws.{result_as}
use Rattle.blocks.specs.Fields.{signed_of, u64_at}
use Rattle.files.specs.Layout.{place_of, value_in}
use Rattle.files.proofs.ReadLaws.{value-place}
use Rattle.files.proofs.take.point_in.Goals as goal

pub returns-clause-values : goal.returns-clause-values
returns-clause-values c =
    let b = c.blocks_of.ensures.each (c.args.k / 12 + 1) (omega (arith, c.requires)) in
    let at = λ (q : ℕ). ap (λ (p : List ℕ). signed_of (u64_at p (place_of c.args.k + q * 8))) b in
    let value = λ (q : ℕ) (h : q < 4). at q ∙ value-place c.args.file.now c.args.k q h in
    let e : place_of c.args.k ≡ place_of c.args.k + 0 * 8 = omega arith in
    let d : c.args.k * 4 + 0 ≡ c.args.k * 4 = omega arith in
    let first =
    ap (λ (i : ℕ). signed_of (u64_at (get_or c.blocks_of.result.now (c.args.k / 12 + 1) []) i)) e
    ∙ (value 0 (omega arith) ∙ ap (value_in c.args.file.now) d)
    in
    ap₂ ◌∷◌ (result_as w64 (c.get_signed.ensures ∙ first) c.get_signed.type_inv)
    (ap₂ ◌∷◌ (result_as w64 (c.get_signed-2.ensures ∙ value 1 (omega arith)) c.get_signed-2.type_inv)
    (ap₂ ◌∷◌ (result_as w64 (c.get_signed-3.ensures ∙ value 2 (omega arith)) c.get_signed-3.type_inv)
    (ap (λ (z : ℤ). z ∷ []) (result_as w64 (c.get_signed-4.ensures ∙ value 3 (omega arith)) c.get_signed-4.type_inv))))
