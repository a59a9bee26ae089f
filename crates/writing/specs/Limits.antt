-- Document 01, 'Written text': the longest text is 61,724 bytes, by the limits of an instance.
use Rattle.std.specs.Prelude.{ℕ, ◌+◌, ◌*◌}
use Rattle.instance.specs.Limits.{max_objectives, max_rows, max_terms}

-- The longest term: `-1000000 ~x64 `.
abbrev pub max_term_text : ℕ
max_term_text = 14

-- What a row has besides its terms, at most: `>= -4096000000 ;` and LF.
abbrev pub max_row_text : ℕ
max_row_text = 17

-- What an objective has besides its terms: `min: ;` and LF.
abbrev pub objective_text : ℕ
objective_text = 7

-- The longest text.
abbrev pub max_written : ℕ
max_written = max_terms * max_term_text + max_rows * max_row_text + max_objectives * objective_text
