-- `writing::terms::term_len` meets its contract: the lengths are small, so their sum fits. Assumes nothing.
use mathlib.Core.Path.{◌≡◌, ap, ◌∙◌}
use Prim.Native.Nat.{◌≤◌}
use native.Mathlib.Omega.{arith}
use lib.IntN.{ℤ}
use lib.ListN.{length}
use mir.Facts.{to_z-of_z}
use mir.Syntax.{w32, w64}
use mir.Val.{to_z, of_z}
use Rattle.decimal.specs.Decimal.{signed}
use Rattle.integers.proofs.SignedLaws.{result_as}
use Rattle.writing.specs.Writing.{literal_text}
use Rattle.writing.proofs.TextLaws.{literal-length}
use Rattle.writing.proofs.LengthLaws.{integer-most, signed-most}
use Rattle.writing.proofs.terms.term_len.Goals.{After-literal_len, After-signed_len}
use Rattle.writing.proofs.terms.term_len.Goals as goal

-- the two lengths are those of the term's numbers
coef-len : (c : After-signed_len) → c.signed_len.result ≡ length (signed c.args.t.coef)
coef-len c =
    let e : to_z w64 (of_z w64 c.from.result) ≡ c.args.t.coef =
    result_as w64 (c.from.ensures ∙ to_z-of_z {w = w32} (record { sfits = omega arith })) c.from.type_inv in
    c.signed_len.ensures ∙ ap (λ (z : ℤ). length (signed z)) e

lit-len : (c : After-literal_len) → c.literal_len.result ≡ length (literal_text c.args.t.lit)
lit-len c =
    let e : to_z w64 (of_z w64 c.from-2.result) ≡ c.args.t.lit =
    result_as w64 (c.from-2.ensures ∙ to_z-of_z {w = w32} (record { sfits = omega arith })) c.from-2.type_inv in
    c.literal_len.ensures ∙ ap (λ (z : ℤ). length (literal_text z)) e

-- so they are small
small : (c : After-literal_len) → (c.signed_len.result ≤ 21) × (c.literal_len.result ≤ 22)
small c = (
  omega (arith, (let e : to_z w64 (of_z w64 c.from.result) ≡ c.args.t.coef = result_as w64 (c.from.ensures ∙ to_z-of_z {w = w32} (record { sfits = omega arith })) c.from.type_inv in c.signed_len.ensures ∙ ap (λ (z : ℤ). length (signed z)) e), signed-most c.args.t.coef),
  omega (arith, lit-len c, literal-length c.args.t.lit, integer-most c.args.t.lit),
)

pub overflow_add-result : goal.overflow_add-result
overflow_add-result c = omega (arith, small c)

pub overflow_add-result-2 : goal.overflow_add-result-2
overflow_add-result-2 c = omega (arith, small c)
