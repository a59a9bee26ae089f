-- The terms of each used entry of an instance can be summed.
use mathlib.Core.List.{List}
use Prim.Native.Nat.{ℕ, ◌+◌, ◌<◌}
use native.Mathlib.Omega.{arith}
use lib.IntN.{ℤ}
use Rattle.instance.specs.Tables.{entries_in, IsInstance}
use Rattle.instance.specs.Structs.{EntryIs}
use Rattle.instance.specs.declared.entries.Entry.{Entry as EntryNumbers}
use Rattle.instance.proofs.InstanceLaws.{entry-inside}
use Rattle.judge.specs.Judging.{Summable}

pub entry-summable : {ts rs : List ℤ} (i : IsInstance ts rs) (k : ℕ) → k < entries_in rs → {e : EntryNumbers} → EntryIs rs k e → Summable ts (e.first + e.count)
entry-summable i k h {e} r = record {
  room = i.terms_room;
  few = omega (arith, r.first, r.count, entry-inside i k h, i.few_terms);
  terms = λ j l. i.terms j (omega (arith, r.first, r.count, entry-inside i k h));
}
