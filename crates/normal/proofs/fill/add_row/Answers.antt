-- Where a row is neither `>=` nor `<=`, it is both half rows, the plain one first (grown-then).
use mathlib.Core.Path.{◌≡◌, subst}
use mathlib.Core.List.{List, [], ◌∷◌}
use mathlib.Core.Bool.{true, false}
use Rattle.std.proofs.Common.{rules}
use Rattle.instance.specs.Structs.{entry_of}
use Rattle.normal.specs.Rows.{HalfRow}
use Rattle.normal.specs.Grown.{half_row, half_rows_of, Grown}
use Rattle.normal.proofs.GrownLaws.{grown-then, room-left}
use Rattle.normal.proofs.fill.add_row.Goals as goal

pub add_half-requires-in-Objective : goal.add_half-requires-in-Objective
add_half-requires-in-Objective c = record {
  term_room_in_bounds = c.requires.term_room_in_bounds;
  count_bound = c.requires.count_bound;
  terms_ok = c.requires.terms_ok;
  bound_bound = c.requires.bound_bound;
  rooms = room-left c.args.terms.now c.args.e c.requires.rooms c.add_half-plain.ensures;
}

pub returns-in-Objective : goal.returns-in-Objective
returns-in-Objective c =
    let e : half_row false (entry_of c.args.terms.now c.args.e) ∷ (half_row true (entry_of c.args.terms.now c.args.e) ∷ []) ≡ half_rows_of (entry_of c.args.terms.now c.args.e) = Prim.search rules in
    subst (λ (rs : List HalfRow). Grown rs c.args.starts.now c.add_half-in-Objective.new.starts c.args.laid.now c.add_half-in-Objective.new.laid c.args.needs.now c.add_half-in-Objective.new.needs
    c.args.at.halves c.args.at.used c.add_half-in-Objective.result.halves c.add_half-in-Objective.result.used) e
    (grown-then c.add_half-plain.ensures c.add_half-in-Objective.ensures)
