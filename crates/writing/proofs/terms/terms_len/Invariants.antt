-- `writing::terms::terms_len` meets its contract: each turn adds the length of one term.
-- The loop's invariant: the sum and the length of the terms that are left are together that of all. Assumes nothing.
use mathlib.Core.Path.{◌≡◌}
use Prim.Native.Nat.{◌+◌, ◌-◌}
use lib.ListN.{length}
use Rattle.instance.specs.Meaning.{terms_at}
use Rattle.writing.specs.Writing.{terms_text}
use Rattle.writing.proofs.terms.terms_len.Given as goal

abbrev pub invariant-loop-k : goal.invariant-loop-k
invariant-loop-k l =
    (l.sum + length (terms_text (terms_at l.terms l.k (l.end - l.k))) ≡ length (terms_text (terms_at l.terms l.first (l.end - l.first))))
