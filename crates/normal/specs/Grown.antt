-- Runs that grow by half rows.
use Rattle.std.specs.Prelude.{◌≡◌, Bool, true, false, not, List, [], ◌∷◌, ◌++◌, ℕ, ◌+◌, ◌≤◌, eqb, length}
use Rattle.charging.specs.declared.rows.Term.{Term}
use Rattle.instance.specs.Rows.{Entry}
use Rattle.normal.specs.Halves.{halves_of, need_of}
use Rattle.normal.specs.Rows.{HalfRow, all_halves, Laid}

-- A half row, if it is wanted.
abbrev pub if_wanted : Bool → HalfRow → List HalfRow
if_wanted true r = r ∷ []
if_wanted false r = []

-- The half row of a row, plain or turned.
abbrev pub half_row : Bool → Entry → HalfRow
half_row turn e = record { terms = halves_of turn e; need = need_of turn e }

-- The half rows of a row: the plain one but for `<=`, the turned one but for `>=`.
abbrev pub half_rows_of : Entry → List HalfRow
half_rows_of e = if_wanted (not (eqb e.kind 3)) (half_row false e) ++ if_wanted (not (eqb e.kind 2)) (half_row true e)

-- Half rows more are laid out, whatever stood before them; the runs keep their lengths.
pub record Grown (rs : List HalfRow) (starts starts' : List ℕ) (laid laid' : List Term) (needs needs' : List ℕ) (halves used halves' used' : ℕ) : Type 0 where
  pub starts_same : length starts' ≡ length starts
  pub laid_same : length laid' ≡ length laid
  pub needs_same : length needs' ≡ length needs
  pub halves_more : halves' ≡ halves + length rs
  pub used_more : used' ≡ used + length (all_halves rs)
  pub more : (hs : List HalfRow) → Laid hs starts laid needs halves used → Laid (hs ++ rs) starts' laid' needs' halves' used'

-- The half rows of rows, in order.
unfoldable pub half_rows_all : List Entry → List HalfRow
half_rows_all [] = []
half_rows_all (e ∷ es) = half_rows_of e ++ half_rows_all es

-- The runs have room for `halves` half rows and `used` terms of them.
pub record Rooms (starts : List ℕ) (laid : List Term) (needs : List ℕ) (halves used : ℕ) : Type 0 where
  pub starts_room : halves + 1 ≤ length starts
  pub laid_room : used ≤ length laid
  pub needs_room : halves ≤ length needs
