-- Where the known witness has v off it stays; else a wanted one with v off takes its place, and where there is none v stays on.
use mathlib.Core.Path.{◌≡◌, refl, ◌∙◌}
use native.Mathlib.Omega.{arith}
use Rattle.charging.specs.Rows.{bit, of}
use Rattle.charging.proofs.BitLaws.{bit_word, bit-two}
use Rattle.forcing.specs.Goals.{Wanted}
use Rattle.finding.proofs.FindLaws.{number-completes}
use Rattle.lowering.proofs.LowerLaws.{wanted-down, lowered-off, lowered-found, lowered-on}
use Rattle.lowering.proofs.settle.Goals as goal

pub returns-then-known-v-eq0 : goal.returns-then-known-v-eq0
returns-then-known-v-eq0 c =
    let g = c.args.goal.now in
    let k = c.args.known in
    lowered-off g.rows.n (Wanted g) c.args.v k.part k.number c.requires.1 0 _ c.put-part.ensures refl (bit_word k.number c.args.v ∙ c.if-known-v-eq0.true)

pub returns-in-Some : goal.returns-in-Some
returns-in-Some c =
    let g = c.args.goal.now in
    let k = c.args.known in
    let r = c.in-Some.found in
    let f = c.in-Some.ensures in
    let m = number-completes g.rows.n (of c.put-part.result) r f.completes in
    lowered-found g.rows.n (Wanted g) c.args.v k.part k.number c.requires.1 0 _ c.put-part.ensures refl c.requires.0 r.one f.fits m.0 (wanted-down g (bit r.one) (of r) m.1 f.wanted)

pub returns : goal.returns
returns c =
    let g = c.args.goal.now in
    let k = c.args.known in
    let e : bit k.number c.args.v ≡ 1 = omega (arith, bit_word k.number c.args.v, bit-two k.number c.args.v, c.if-known-v-eq0.false) in
    lowered-on g.rows.n (Wanted g) c.args.v k.part k.number c.requires.1 1 _ c.put.ensures refl c.requires.0 e c.put-part.result c.put-part.ensures c.in_default.ensures
