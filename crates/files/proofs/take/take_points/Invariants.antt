-- Each point is read and stored. Invariant: those passed are the file's, the rest is as found.
use mathlib.Core.Path.{◌≡◌}
use mathlib.Core.List.{◌++◌}
use Prim.Native.Nat.{◌*◌}
use lib.ListN.{drop}
use Rattle.files.specs.Layout.{values_in, models_in}
use Rattle.files.proofs.take.take_points.Given as goal

abbrev pub invariant-loop-k : goal.invariant-loop-k
invariant-loop-k l = (l.values ≡ values_in l.file l.k ++ drop (l.k * 4) l.initial.values) × (l.models ≡ models_in l.file l.k ++ drop l.k l.initial.models)
