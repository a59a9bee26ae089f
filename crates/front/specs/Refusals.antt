-- Document 01, 'Refusal numbers': those of listing.
use Rattle.std.specs.Prelude.{ℕ}
use Rattle.front.specs.declared.errors.ListError.{ListError}
use Rattle.front.specs.declared.errors.ListError.TheVariants.{NotInstance, Larger}

-- 10 for tables that are not an instance, 11 for a front that is larger than the room.
abbrev pub refusal_number : ListError → ℕ
refusal_number NotInstance = 10
refusal_number (Larger r) = 11

-- The room, where the front is larger.
abbrev pub refusal_value : ListError → ℕ
refusal_value NotInstance = 0
refusal_value (Larger r) = r
