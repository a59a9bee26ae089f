-- The round trip of instance text, both ways. Assumes nothing.
use mathlib.Core.Path.{◌≡◌, sym, ap, ◌∙◌}
use mathlib.Core.List.{List, ◌++◌, append_assoc}
use Prim.Native.Nat.{ℕ, ◌-◌, ◌≤◌}
use native.Mathlib.Omega.{arith}
use lib.IntN.{ℤ, pos}
use lib.ListN.{length, take, drop, replicate, length-append, length-replicate}
use lib.Seq.{take_at}
use Rattle.instance.specs.Limits.{term_room, row_room}
use Rattle.instance.specs.Rows.{Entry}
use Rattle.instance.specs.Tables.{IsInstance}
use Rattle.instance.specs.Meaning.{Instance, entries, meaning}
use Rattle.instance.specs.Layout.{all_terms, term_numbers, entry_numbers, filled, term_table, row_table, Within}
use Rattle.instance.proofs.NumberLaws.{term_numbers-length, entry_numbers-length}
use Rattle.instance.proofs.MeaningLaws.{instance-within, instance-terms, instance-rows}
use Rattle.instance.proofs.LayoutLaws.{layout-instance, layout-meaning}
use Rattle.reading.specs.Reading.{accepted, read_bytes, instance_of}
use Rattle.writing.specs.Writing.{instance_text}
use Rattle.writing.proofs.WithinLaws.{within-length}
use Rattle.text.specs.RoundTrip.{GivesBack}
use Rattle.text.proofs.WriteReadLaws.{write_read}
use Rattle.text.proofs.ReadWithinLaws.{read-within}

-- ---- the room of a table, whatever lay there before

filled-take : (room : ℕ) (xs found : List ℤ) → length xs ≤ room → take room (filled room xs found) ≡ xs ++ replicate (room - length xs) (pos 0)
filled-take room xs found h =
    ap (take room) (sym (append_assoc xs (replicate (room - length xs) (pos 0)) (drop room found)))
    ∙ take_at (xs ++ replicate (room - length xs) (pos 0)) (drop room found) room
    (omega (arith, length-append xs (replicate (room - length xs) (pos 0)), length-replicate (room - length xs) (pos 0)))

-- the same numbers fill the same room
filled-anywhere : (room : ℕ) (xs a b : List ℤ) → length xs ≤ room → take room (filled room xs a) ≡ take room (filled room xs b)
filled-anywhere room xs a b h = filled-take room xs a h ∙ sym (filled-take room xs b h)

module _ {i : Instance} (w : Within i) (a b : List ℤ) where
  terms-anywhere : take term_room (term_table (entries i) a) ≡ take term_room (term_table (entries i) b)
  terms-anywhere = filled-anywhere term_room (term_numbers (all_terms (entries i))) a b (omega (arith, w.few_terms, term_numbers-length (all_terms (entries i))))

  rows-anywhere : take row_room (row_table (entries i) a) ≡ take row_room (row_table (entries i) b)
  rows-anywhere =
      filled-anywhere row_room (entry_numbers 0 (entries i)) a b
      (omega (arith, w.few_objectives, w.few_rows, entry_numbers-length 0 (entries i), length-append i.objectives i.rows))

-- ---- tables, text, tables

-- Tables that are an instance, written as text and read again, are the same tables.
pub written-read-back : (ts rs : List ℤ) → IsInstance ts rs → GivesBack (instance_text (meaning ts rs)) ts rs
written-read-back ts rs i =
    let w : Within (meaning ts rs) = instance-within i in record {
      objectives = (meaning ts rs).objectives;
      rows = (meaning ts rs).rows;
      short = within-length (meaning ts rs) w;
      accepts = write_read w;
      terms_same = instance-terms i;
      rows_same = instance-rows i;
      terms_anywhere = λ found. terms-anywhere w found ts ∙ ap (take term_room) (instance-terms i);
      rows_anywhere = λ found. rows-anywhere w found rs ∙ ap (take row_room) (instance-rows i);
      variables_same = sym w.variables;
    }

-- ---- text, instance, text

module _ (text : List ℕ) {os rs : List Entry} (e : read_bytes text ≡ accepted os rs) where
  -- What was read of a text, written and read again, is the same.
  pub read-written-read : read_bytes (instance_text (instance_of os rs)) ≡ accepted os rs
  read-written-read = write_read (read-within text e)

  -- The tables that hold what was read are an instance, and mean it.
  pub read-instance : (a b : List ℤ) → IsInstance (term_table (os ++ rs) a) (row_table (os ++ rs) b)
  read-instance a b = layout-instance (read-within text e) a b

  pub read-meaning : (a b : List ℤ) → meaning (term_table (os ++ rs) a) (row_table (os ++ rs) b) ≡ instance_of os rs
  read-meaning a b = layout-meaning (read-within text e) a b
