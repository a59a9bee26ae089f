-- Document 01, 'Written text': it can always be read again.
use Rattle.std.specs.Prelude.{◌≡◌, List, ◌++◌, ℕ, ◌≤◌, ℤ, length, take}
use Rattle.instance.specs.Limits.{term_room, row_room}
use Rattle.instance.specs.Terms.{highest}
use Rattle.instance.specs.Rows.{Entry}
use Rattle.instance.specs.Tables.{IsInstance}
use Rattle.instance.specs.Meaning.{meaning}
use Rattle.instance.specs.Layout.{all_terms, term_table, row_table}
use Rattle.reading.specs.Reading.{accepted, read_bytes}
use Rattle.writing.specs.Limits.{max_written}

-- A text gives tables back: it is short enough and accepted, its entries laid out in the tables leave them as they are, and laid out in
-- any others they fill the room with the same numbers; the number of variables is that of the instance.
pub record GivesBack (text : List ℕ) (ts rs : List ℤ) : Type 0 where
  pub objectives : List Entry
  pub rows : List Entry
  pub short : length text ≤ max_written
  pub accepts : read_bytes text ≡ accepted objectives rows
  pub terms_same : term_table (objectives ++ rows) ts ≡ ts
  pub rows_same : row_table (objectives ++ rows) rs ≡ rs
  pub terms_anywhere : (found : List ℤ) → take term_room (term_table (objectives ++ rows) found) ≡ take term_room ts
  pub rows_anywhere : (found : List ℤ) → take row_room (row_table (objectives ++ rows) found) ≡ take row_room rs
  pub variables_same : highest (all_terms (objectives ++ rows)) ≡ (meaning ts rs).variables

-- Tables that reading leaves: an instance of n variables.
pub record LeavesInstance (n : ℕ) (ts rs : List ℤ) : Type 0 where
  pub is : IsInstance ts rs
  pub variables : (meaning ts rs).variables ≡ n
