use mathlib.Core.Path.{◌≡◌, refl, ap, ◌∙◌}
use mathlib.Core.List.{List}
use Prim.Native.Nat.{◌<◌}
use lib.IntN.{ℤ}
use native.Mathlib.Omega.{arith}
use lib.ListN.{length, length-set, get_or-replicate}
use Rattle.advancing.proofs.NextLaws.{stocked-empty, stocked-more}
use Rattle.normal.proofs.NormalLaws.{normal-ordered}
use Rattle.points.specs.Lists.{values_put}
use Rattle.front.proofs.ListingLaws.{listing_none, listing-as}
use Rattle.front.proofs.StepLaws.{added, listing-more, lists-all, lists-part, next-is, next-not}
use Rattle.front.proofs.listing.list_points.Goals as goal

pub loop-m-init : goal.loop-m-init
loop-m-init c =
    let a = c.args in (
      refl,
      refl,
      listing_none a.terms.now a.rows.now a.problem.now a.values.now a.models.now _ refl,
      stocked-empty a.problem.now _ _ _ (λ i h. get_or-replicate 4 i 0 0 (omega (arith, h, a.problem.now.few))),
    )

pub returns-in_default : goal.returns-in_default
returns-in_default c =
    lists-all (normal-ordered c.requires.normal) c.loop-m.invariant.2 c.args.room (next-not c.next_point-advance.ensures.next c.in_default.is) (omega (arith, c.loop-m-test.true))

pub loop-m-preserved : goal.loop-m-preserved
loop-m-preserved c =
    let l = c.loop-m in
    let trade = c.in-Some.trade in
    let inside : l.m < length l.listed = omega (arith, l.invariant.0, c.loop-m-test.true, c.requires.room.0) in
    let one = added l.listed l.m trade inside in
    let x = next-is c.next_point-advance.ensures.next c.in-Some.is in
    let stored = c.store.ensures.values ∙ ap (λ (v : List ℤ). values_put l.values l.m v) c.values_of.ensures in (
      length-set l.listed l.m trade ∙ l.invariant.0,
      omega (arith, c.next_point-advance.auto, l.invariant.1),
      listing-more (normal-ordered c.requires.normal) l.invariant.2 x one (omega (arith, c.loop-m-test.true, c.requires.room.2)) stored c.store.ensures.models,
      stocked-more c.args.problem.now _ _ _ _ (omega (arith, one.many)) one.old c.next_point-advance.ensures.stocked,
    )

pub returns-in-Some-next : goal.returns-in-Some-next
returns-in-Some-next c =
    let done : c.loop-m.m ≡ c.args.room = omega arith in
    lists-part (normal-ordered c.requires.normal) (listing-as c.loop-m.listed done c.loop-m.invariant.2) (next-is c.next_point-last.ensures.next c.in-Some-next.is)

pub returns-in-None : goal.returns-in-None
returns-in-None c =
    let done : c.loop-m.m ≡ c.args.room = omega arith in
    lists-all (normal-ordered c.requires.normal) (listing-as c.loop-m.listed done c.loop-m.invariant.2) c.args.room (next-not c.next_point-last.ensures.next c.in-None.is) (omega arith)
