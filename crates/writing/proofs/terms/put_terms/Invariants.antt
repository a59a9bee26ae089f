-- `writing::terms::put_terms` meets its contract: each turn puts one term.
-- The loop's invariant: to write the terms that are left now gives what was asked. Assumes nothing.
use Prim.Native.Nat.{◌-◌}
use Rattle.instance.specs.Meaning.{terms_at}
use Rattle.writing.specs.Writing.{terms_text}
use Rattle.writing.proofs.RestLaws.{Rest}
use Rattle.writing.proofs.terms.put_terms.Given as goal

abbrev pub invariant-loop-k : goal.invariant-loop-k
invariant-loop-k l =
    Rest l.initial.out l.at (terms_text (terms_at l.terms l.first (l.end - l.first))) l.out l.place (terms_text (terms_at l.terms l.k (l.end - l.k)))
