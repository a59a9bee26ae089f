-- RFC 1071, 'Computing the Internet Checksum': the 16-bit one's complement of the one's complement sum of all 16-bit words.
-- Document 01, 'Front file, form 1': the check of a block.
use Rattle.std.specs.Prelude.{◌≡◌, List, [], ◌∷◌, ℕ, ◌+◌, ◌-◌, ◌*◌, ◌/◌, ◌%◌, drop}
use Rattle.blocks.specs.Fields.{u16_at}

-- Adjacent bytes are paired to words of 16 bits, and the words are added; an odd last byte is paired with zero.
unfoldable pub word_sum : List ℕ → ℕ
word_sum [] = 0
word_sum (a ∷ []) = a * 256
word_sum (a ∷ (b ∷ bs)) = (a * 256 + b) + word_sum bs

-- The carries out of 16 bits are added back in at the low end.
abbrev pub fold : ℕ → ℕ
fold s = s % 65536 + s / 65536

-- The one's complement sum: the sum of all words with its carries folded in. Twice is enough for any sum below 2 ^ 32.
abbrev pub ones_sum : ℕ → ℕ
ones_sum s = fold (fold s)

-- Its one's complement: every bit of 16 inverted.
abbrev pub checksum : List ℕ → ℕ
checksum bs = 65535 - ones_sum (word_sum bs)

-- The check of a block: the checksum of the block with bytes 0-1 taken as zero.
abbrev pub check_of : List ℕ → ℕ
check_of block = checksum (0 ∷ (0 ∷ drop 2 block))

-- The stored number equals the computed one: FFFF does not stand for 0000.
pub record CheckFits (block : List ℕ) : Type 0 where
  pub stored : u16_at block 0 ≡ check_of block
