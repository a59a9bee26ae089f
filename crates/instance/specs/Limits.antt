-- Document 01, 'Sizes': each limit once. The code names them as constants of the types that they limit.
use Rattle.std.specs.Prelude.{ℕ, ◌+◌, ◌*◌}

-- At most 4 objectives.
abbrev pub max_objectives : ℕ
max_objectives = 4

-- At most 256 rows.
abbrev pub max_rows : ℕ
max_rows = 256

-- At most 4,096 terms over all.
abbrev pub max_terms : ℕ
max_terms = 4096

-- Variables x1 to x64.
abbrev pub max_variable : ℕ
max_variable = 64

-- Coefficients are within 1,000,000 of zero.
abbrev pub max_coef : ℕ
max_coef = 1000000

-- Bounds are within 4,096,000,000 of zero, and so is every sum.
abbrev pub max_bound : ℕ
max_bound = max_terms * max_coef

-- Entries of the row table: objectives and rows.
abbrev pub max_entries : ℕ
max_entries = max_objectives + max_rows

-- The room of the term table: two numbers for a term.
abbrev pub term_room : ℕ
term_room = max_terms * 2

-- The room of the row table: four numbers for an entry.
abbrev pub row_room : ℕ
row_room = max_entries * 4
