use mathlib.Core.Path.{subst}
use Prim.Native.Nat.{ℕ, ◌+◌}
use native.Mathlib.Omega.{arith}
use Rattle.instance.specs.Lists.{tabulate}
use Rattle.instance.specs.Meaning.{entry_at}
use Rattle.instance.proofs.InstanceLaws.{entry-fine}
use Rattle.normal.specs.Rows.{Laid}
use Rattle.normal.specs.Grown.{half_rows_all}
use Rattle.normal.proofs.LayLaws.{laying-start, laying-room, laying-step, rooms-set, entry-inside-all, entry-terms-ok, entry-bound}
use Rattle.normal.proofs.fill.lay_rows.Goals as goal

pub loop-k-init : goal.loop-k-init
loop-k-init c = laying-start c.args.terms.now c.args.rows.now c.args.first c.args.starts.now c.args.laid.now c.args.needs.now (omega (arith, c.requires.rooms.starts_room))

pub at-requires : goal.at-requires
at-requires c = entry-fine c.requires.instance (c.args.first + c.loop-k.k) (omega (arith, c.requires.count_bound))

pub add_row-at-requires : goal.add_row-at-requires
add_row-at-requires c = record {
  term_room_in_bounds = c.requires.instance.terms_room;
  count_bound = entry-inside-all c.requires.instance (c.args.first + c.loop-k.k) (omega (arith, c.requires.count_bound)) c.at.result c.at.ensures;
  terms_ok = entry-terms-ok c.requires.instance (c.args.first + c.loop-k.k) (omega (arith, c.requires.count_bound)) c.at.result c.at.ensures;
  bound_bound = entry-bound c.requires.instance (c.args.first + c.loop-k.k) (omega (arith, c.requires.count_bound)) c.at.result c.at.ensures;
  rooms = laying-room c.loop-k.invariant c.requires.instance (omega (arith, c.requires.count_bound)) c.args.count (rooms-set 0 0 c.requires.rooms) c.loop-k-test.true c.at.result.count c.at.ensures.count;
}

pub loop-k-preserved : goal.loop-k-preserved
loop-k-preserved c = laying-step c.loop-k.invariant c.requires.instance (omega (arith, c.requires.count_bound)) c.at.result c.at.ensures c.add_row-at.ensures

pub returns : goal.returns
returns c =
    subst (λ (n : ℕ). Laid (half_rows_all (tabulate (entry_at c.args.terms.now c.args.rows.now) c.args.first n)) c.loop-k.starts c.loop-k.laid c.loop-k.needs c.loop-k.at.halves c.loop-k.at.used)
    (omega arith) c.loop-k.invariant.rows
