-- Document 01, 'Front file, form 1': numbers in a block of 512 bytes, big-endian, and what storing one leaves.
use Rattle.std.specs.Prelude.{◌≡◌, cond, List, ℕ, zero, suc, ◌+◌, ◌-◌, ◌*◌, ◌/◌, ◌%◌, ◌^◌, ◌≤◌, ◌<◌, ltb, ℤ, pos, negsuc, get_or, set}

-- A block is 512 bytes.
abbrev pub block_len : ℕ
block_len = 512

-- ---- numbers read

-- The byte at a place.
abbrev pub byte_at : List ℕ → ℕ → ℕ
byte_at bs at = get_or bs at 0

-- A number of so many bytes: the high byte first, so that each byte is worth 256 times the next.
unfoldable pub number_at : ℕ → List ℕ → ℕ → ℕ
number_at zero bs at = 0
number_at (suc n) bs at = number_at n bs at * 256 + byte_at bs (at + n)

-- Of 16, 32 and 64 bits.
abbrev pub u16_at : List ℕ → ℕ → ℕ
u16_at bs at = number_at 2 bs at

abbrev pub u32_at : List ℕ → ℕ → ℕ
u32_at bs at = number_at 4 bs at

abbrev pub u64_at : List ℕ → ℕ → ℕ
u64_at bs at = number_at 8 bs at

-- The signed number that 64 bits stand for in two's complement.
abbrev pub signed_of : ℕ → ℤ
signed_of u = cond (ltb u (2 ^ 63)) (pos u) (negsuc (2 ^ 64 - suc u))

-- The 64 bits of a signed number in two's complement.
abbrev pub bits_of : ℤ → ℕ
bits_of (pos n) = n
bits_of (negsuc n) = 2 ^ 64 - suc n

-- The bytes from `from` up to `end` are zero.
abbrev pub ZeroBytes : List ℕ → ℕ → ℕ → Type 0
ZeroBytes bs from end = (i : ℕ) → from ≤ i → i < end → byte_at bs i ≡ 0

-- ---- numbers stored

-- bs with a number of so many bytes stored from `at` on: the last byte is its lowest, and the bytes before it hold the rest.
unfoldable pub put : ℕ → List ℕ → ℕ → ℕ → List ℕ
put zero bs at x = bs
put (suc n) bs at x = put n (set bs (at + n) (x % 256)) at (x / 256)
