-- The sides are added up from the objective's terms, and the costs settled from them.
use mathlib.Core.Bool.{false}
use mathlib.Core.Path.{refl, sym, ap, ◌∙◌, subst}
use Prim.Native.Nat.{ℕ, ◌+◌}
use native.Mathlib.Omega.{arith}
use lib.ListN.{length, length-set}
use Rattle.instance.specs.Terms.{TermOk}
use Rattle.instance.proofs.InstanceLaws.{entry-fine, variables-le}
use Rattle.normal.specs.Halves.{half_of}
use Rattle.normal.specs.Costs.{Spread}
use Rattle.normal.proofs.CostLaws.{zeros, spread_none, spread-more}
use Rattle.normal.proofs.PricedLaws.{objective-inside, objective-term, objective-half, priced-one}
use Rattle.normal.proofs.costs.lay_objective.Goals as goal

pub at-e-requires : goal.at-e-requires
at-e-requires c = entry-fine c.requires.instance c.args.i (omega (arith, c.requires.i_bound))

pub loop-k-init : goal.loop-k-init
loop-k-init c = (refl, spread_none c.args.terms.now c.at-e.result.first (length c.args.costs.now) _ (zeros 64))

pub overflow_add-e : goal.overflow_add-e
overflow_add-e c = let few = objective-inside c.requires.instance c.args.i c.requires.i_bound c.at-e.result c.at-e.ensures in omega arith

pub at-requires : goal.at-requires
at-requires c = let few = objective-inside c.requires.instance c.args.i c.requires.i_bound c.at-e.result c.at-e.ensures in omega (arith, c.requires.instance.terms_room)

pub half_of-h-requires : goal.half_of-h-requires
half_of-h-requires c =
    let k = c.at-e.result.first + c.loop-k.k in
    subst TermOk (sym c.at.ensures) (objective-term c.requires.instance c.args.i c.requires.i_bound c.at-e.result c.at-e.ensures k (omega arith))

pub bounds-sides-from : goal.bounds-sides-from
bounds-sides-from c =
    let k = c.at-e.result.first + c.loop-k.k in
    let o = objective-half c.requires.instance c.args.i c.requires.i_bound c.at-e.result c.at-e.ensures refl k (omega arith) c.half_of-h.ensures c.at.ensures in
    omega (arith, o.variable, c.from.ensures, variables-le c.requires.instance)

pub add-requires : goal.add-requires
add-requires c =
    let k = c.at-e.result.first + c.loop-k.k in
    let o = objective-half c.requires.instance c.args.i c.requires.i_bound c.at-e.result c.at-e.ensures refl k (omega arith) c.half_of-h.ensures c.at.ensures in
    let few = objective-inside c.requires.instance c.args.i c.requires.i_bound c.at-e.result c.at-e.ensures in
    let low = c.loop-k.invariant.1.small in
    (omega (arith, low c.from.result 0, o.weight), omega (arith, low c.from.result 1, o.weight))

pub loop-k-preserved : goal.loop-k-preserved
loop-k-preserved c =
    let n = length c.args.costs.now in
    let k = c.at-e.result.first + c.loop-k.k in
    let o = objective-half c.requires.instance c.args.i c.requires.i_bound c.at-e.result c.at-e.ensures c.requires.n_value k (omega arith) c.half_of-h.ensures c.at.ensures in
    let room = variables-le c.requires.instance in
    let read = c.half_of-h.ensures ∙ ap (half_of false) c.at.ensures in
    let more = spread-more c.args.terms.now c.at-e.result.first c.loop-k.k n c.loop-k.invariant.1 c.half_of-h.result read o (omega (arith, c.requires.n_value, c.loop-k.invariant.0)) in
    (simp length-set c.loop-k.invariant.0, rw (c.add.ensures, c.from.ensures) more)

pub settle-requires : goal.settle-requires
settle-requires c = omega (arith, c.requires.n_value, variables-le c.requires.instance, c.loop-k.invariant.0)

pub returns : goal.returns
returns c =
    let few = objective-inside c.requires.instance c.args.i c.requires.i_bound c.at-e.result c.at-e.ensures in
    let all = subst (λ (k : ℕ). Spread c.args.terms.now c.at-e.result.first k (length c.args.costs.now) c.loop-k.sides) (omega arith) c.loop-k.invariant.1 in
    priced-one c.args.terms.now c.args.rows.now c.args.i (length c.args.costs.now) c.at-e.result c.at-e.ensures (omega arith) all c.settle.ensures
