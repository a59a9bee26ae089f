-- The half rows fit into their room, and are those of the instance.
use mathlib.Core.Path.{refl, sym}
use native.Mathlib.Omega.{arith}
use Rattle.std.proofs.lemmas.List.{length-take-le}
use Rattle.normal.proofs.NormalLaws.{few-table}
use Rattle.front.proofs.RowLaws.{halves-fit, terms-fit, half-rows}
use Rattle.front.proofs.answer.list_instance.Goals as goal

pub overflow_add-starts : goal.overflow_add-starts
overflow_add-starts c = omega (arith, halves-fit c.requires.sizes_of c.lay_rows-filled.ensures)

pub slice_bounds-starts-end : goal.slice_bounds-starts-end
slice_bounds-starts-end c = omega (arith, halves-fit c.requires.sizes_of c.lay_rows-filled.ensures, c.lay_rows-filled.auto)

pub slice_bounds-half_rows-end : goal.slice_bounds-half_rows-end
slice_bounds-half_rows-end c = sym (length-take-le _ _ (omega (arith, halves-fit c.requires.sizes_of c.lay_rows-filled.ensures, c.lay_rows-filled.auto)))

pub slice_bounds-laid-end : goal.slice_bounds-laid-end
slice_bounds-laid-end c = omega (arith, terms-fit c.requires.sizes_of c.lay_rows-filled.ensures, c.lay_rows-filled.auto)

pub slice_bounds-half_rows-end-2 : goal.slice_bounds-half_rows-end-2
slice_bounds-half_rows-end-2 c = sym (length-take-le _ _ (omega (arith, terms-fit c.requires.sizes_of c.lay_rows-filled.ensures, c.lay_rows-filled.auto)))

pub slice_bounds-needs-end : goal.slice_bounds-needs-end
slice_bounds-needs-end c = omega (arith, halves-fit c.requires.sizes_of c.lay_rows-filled.ensures, c.lay_rows-filled.auto)

pub slice_bounds-half_rows-end-3 : goal.slice_bounds-half_rows-end-3
slice_bounds-half_rows-end-3 c = sym (length-take-le _ _ (omega (arith, halves-fit c.requires.sizes_of c.lay_rows-filled.ensures, c.lay_rows-filled.auto)))

pub invariant_of-half_rows : goal.invariant_of-half_rows
invariant_of-half_rows c =
    let s = c.requires.sizes_of in
    record { table = rw s.variables (few-table s.is s.objectives s.rows c.lay_rows-filled.ensures) }

pub slice_bounds-turns-end : goal.slice_bounds-turns-end
slice_bounds-turns-end c = omega (arith, halves-fit c.requires.sizes_of c.lay_rows-filled.ensures, c.by_length.auto)

pub slice_bounds-half_rows-end-5 : goal.slice_bounds-half_rows-end-5
slice_bounds-half_rows-end-5 c = sym (length-take-le _ _ (omega (arith, halves-fit c.requires.sizes_of c.lay_rows-filled.ensures, c.by_length.auto)))

pub list_rows-requires-clause-half_rows : goal.list_rows-requires-clause-half_rows
list_rows-requires-clause-half_rows c =
    let s = c.requires.sizes_of in
    let l = c.lay_rows-filled.ensures in
    half-rows s l _ refl refl refl refl (omega (arith, terms-fit s l, c.lay_rows-filled.auto))
