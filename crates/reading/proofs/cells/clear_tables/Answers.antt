-- A part filled with zeros is the room cleared.
use mathlib.Core.Path.{◌≡◌, ap, ◌∙◌}
use mathlib.Core.List.{List, ◌++◌}
use Prim.Native.Nat.{ℕ}
use lib.IntN.{ℤ, pos}
use lib.ListN.{drop, replicate}
use lib.Seq.{length-take-le}
use Rattle.instance.specs.Limits.{term_room, row_room}
use Rattle.reading.proofs.CellLaws.{terms-clear, rows-clear}
use Rattle.reading.proofs.cells.clear_tables.Goals as goal

pub returns-clause-terms : goal.returns-clause-terms
returns-clause-terms c =
    let e : c.fill.new.self ≡ replicate term_room (pos 0)
    = c.fill.ensures.after (λ y h. h) ∙ ap (λ (n : ℕ). replicate n (pos 0)) (length-take-le term_room c.args.terms.now c.requires.term_room_in_bounds) in
    ap (λ (l : List ℤ). l ++ drop term_room c.args.terms.now) e ∙ terms-clear c.args.terms.now

pub returns-clause-rows : goal.returns-clause-rows
returns-clause-rows c =
    let e : c.fill-2.new.self ≡ replicate row_room (pos 0)
    = c.fill-2.ensures.after (λ y h. h) ∙ ap (λ (n : ℕ). replicate n (pos 0)) (length-take-le row_room c.args.rows.now c.requires.row_room_in_bounds) in
    ap (λ (l : List ℤ). l ++ drop row_room c.args.rows.now) e ∙ rows-clear c.args.rows.now
