use native.Mathlib.Omega.{arith}
use mathlib.Core.Path.{◌≡◌}
use Prim.Native.Nat.{◌≤◌, ◌<◌, ◌+◌, ◌-◌}
use lib.ListN.{length, length-set}
use Rattle.std.proofs.lemmas.List.{get_or_read}
use Rattle.capping.specs.Caps.{no_trade}
use Rattle.seeking.proofs.StockLaws.{front_length, least-front}
use Rattle.advancing.proofs.NextLaws.{sifted-drop}
use Rattle.advancing.proofs.choices.sift.Goals as goal

pub returns-then-fresh-clause-chosen : goal.returns-then-fresh-clause-chosen
returns-then-fresh-clause-chosen g c =
    let points = c.loop-last.points in
    let count = c.loop-last.last - 1 + 1 in
    let room : count ≤ length points = omega (arith, c.loop-last.invariant.0, c.loop-last.invariant.1.fewer, c.requires, c.loop-last-test.true) in
    let inside : c.least-j.result < count = omega (arith, c.least-j.ensures.0 (omega (arith, front_length points count room)), front_length points count room) in
    record {
      place = c.least-j.result;
      inside = inside;
      here = get_or_read points c.least-j.result c.index-points-j.result (omega (arith, inside, room)) c.index-points-j.is no_trade;
      least = least-front points count room c.args.problem.now.count c.least-j.result inside c.least-j.ensures.1;
      fresh = c.fresh.ensures.yes c.if-fresh.true;
    }

pub loop-last-preserved : goal.loop-last-preserved
loop-last-preserved g c =
    let points = c.loop-last.points in
    let last = c.loop-last.last - 1 in
    let e : c.loop-last.last ≡ last + 1 = omega (arith, c.loop-last-test.true) in
    let room : last + 1 ≤ length points = omega (arith, c.loop-last.invariant.0, c.loop-last.invariant.1.fewer, c.requires) in
    let long = front_length points (last + 1) room in
    let inside : c.least-j.result < last + 1 = omega (arith, c.least-j.ensures.0 (omega (arith, long)), long) in
    let here = get_or_read points c.least-j.result c.index-points-j.result (omega (arith, inside, room)) c.index-points-j.is no_trade in
    let there = get_or_read points last c.index-points-last.result (omega (arith, room)) c.index-points-last.is no_trade in (
      simp length-set c.loop-last.invariant.0,
      sifted-drop c.args.problem.now.count c.args.listed.now c.args.points.now c.args.stock.count points last c.least-j.result
          c.index-points-j.result c.index-points-last.result here there (rw e at c.loop-last.invariant.1) inside (omega arith)
          (c.fresh.ensures.no c.if-fresh.false),
    )
