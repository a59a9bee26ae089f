-- How the C boundary packs an answer: the refusal number (0 for done) in the upper 32 bits, the answer number in the lower 32.
use Rattle.std.specs.Prelude.{ℕ, ◌+◌, ◌*◌, ◌%◌}

abbrev pub packed : ℕ → ℕ → ℕ
packed number value = number * 4294967296 + value % 4294967296
