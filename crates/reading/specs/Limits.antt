-- Document 01, 'Sizes': how long a text may be. The code names it as a constant of `Text`.
use Rattle.std.specs.Prelude.{ℕ}

-- Text of 65,535 bytes.
abbrev pub max_text : ℕ
max_text = 65535
