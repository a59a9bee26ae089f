-- Document 01, 'Refusal numbers': those of writing.
use Rattle.std.specs.Prelude.{ℕ}
use Rattle.writing.specs.declared.errors.WriteError.{WriteError}
use Rattle.writing.specs.declared.errors.WriteError.TheVariants.{NotInstance, ShortOutput}

-- 10 for tables that are not an instance, 13 for an output that is too short.
abbrev pub refusal_number : WriteError → ℕ
refusal_number NotInstance = 10
refusal_number ShortOutput = 13
