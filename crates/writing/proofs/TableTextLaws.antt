-- The text of tables that are an instance, entry by entry: what the loops of text_len and put_text go by. Assumes nothing.
use mathlib.Core.Path.{◌≡◌, sym, ap, ◌∙◌}
use mathlib.Core.List.{List}
use Prim.Native.Nat.{ℕ, ◌+◌, ◌-◌, ◌*◌, ◌≤◌, ◌<◌}
use native.Mathlib.Omega.{arith}
use lib.IntN.{ℤ}
use lib.ListN.{length}
use Rattle.instance.specs.Lists.{tabulate}
use Rattle.instance.specs.Tables.{IsInstance, entries_in}
use Rattle.instance.specs.Meaning.{entry_at, meaning}
use Rattle.instance.specs.Structs.{EntryIs}
use Rattle.instance.specs.declared.entries.Entry.{Entry as EntryNumbers}
use Rattle.instance.proofs.InstanceLaws.{entry-inside}
use Rattle.instance.proofs.MeaningLaws.{instance-entries, instance-within}
use Rattle.writing.specs.Answers.{text_of}
use Rattle.writing.specs.Limits.{max_written}
use Rattle.writing.specs.Writing.{statements_text}
use Rattle.writing.proofs.WithinLaws.{within-length}

module _ {ts rs : List ℤ} (i : IsInstance ts rs) where
  -- its terms lie in the table
  pub entry-room : (k : ℕ) → k < entries_in rs → (e : EntryNumbers) → EntryIs rs k e → (e.first + e.count) * 2 ≤ length ts
  entry-room k l e h = omega (arith, h.first, h.count, entry-inside i k l, i.few_terms, i.terms_room)

  -- the text is that of all entries, and at most 61,724 bytes
  pub text-entries : (n : ℕ) → n ≡ entries_in rs → statements_text (tabulate (entry_at ts rs) 0 (n - 0)) ≡ text_of ts rs
  text-entries n e =
      let all : n - 0 ≡ entries_in rs = omega arith in
      ap (λ (m : ℕ). statements_text (tabulate (entry_at ts rs) 0 m)) all ∙ ap statements_text (sym (instance-entries i))

  pub text-most : length (text_of ts rs) ≤ max_written
  text-most = within-length (meaning ts rs) (instance-within i)
