-- Adding what is left from here gives the one's complement sum of all words, by `check-step`. Invariant: that, and the sum below 2 ^ 16.
use mathlib.Core.Path.{◌≡◌}
use Prim.Native.Nat.{◌+◌, ◌*◌, ◌<◌}
use lib.ListN.{drop}
use Rattle.blocks.specs.Check.{word_sum, ones_sum}
use Rattle.blocks.proofs.check.check_of.Given as goal

abbrev pub invariant-loop-word : goal.invariant-loop-word
invariant-loop-word l = (l.sum < 65536) × (ones_sum (l.sum + word_sum (drop (2 + l.word-index * 2) l.block)) ≡ ones_sum (word_sum (drop 2 l.block)))
