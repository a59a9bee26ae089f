-- The code's structs, as what they stand for: a term, an entry, and the limits.
use Rattle.std.specs.Prelude.{◌≡◌, List, ℕ, ◌+◌, ◌*◌, ◌<◌, T, ℤ, nat_abs, length}
use Rattle.std.specs.Int.Signed.{non_neg}
use Rattle.instance.specs.Kinds.{number_of}
use Rattle.instance.specs.Limits.{max_objectives, max_rows, max_terms, max_entries, max_variable, max_coef, max_bound, term_room, row_room}
use Rattle.instance.specs.Terms.{Term}
use Rattle.instance.specs.Rows.{Entry}
use Rattle.instance.specs.Meaning.{terms_at}
use Rattle.instance.specs.Tables.{kind_at, first_at, count_at, bound_at}
use Rattle.instance.specs.declared.terms.Term.{Term as TermPair}
use Rattle.instance.specs.declared.entries.Entry.{Entry as EntryNumbers}
use Rattle.instance.specs.declared.limits.Limits.{Limits}

-- The term that a coefficient and a literal of the code are.
abbrev pub term_of : TermPair → Term
term_of t = record { coef = t.coef; lit = t.lit }

-- The entry whose numbers the code has in e.
abbrev pub entry_of : List ℤ → EntryNumbers → Entry
entry_of ts e = record { kind = number_of e.kind; terms = terms_at ts e.first e.count; bound = e.bound }

-- Entry k stands in the table, and its kind, first index and count are not negative.
pub record EntryFine (rs : List ℤ) (k : ℕ) : Type 0 where
  pub inside : k * 4 + 3 < length rs
  pub kind : T (non_neg (kind_at rs k))
  pub first : T (non_neg (first_at rs k))
  pub count : T (non_neg (count_at rs k))

-- e has the four numbers of entry k.
pub record EntryIs (rs : List ℤ) (k : ℕ) (e : EntryNumbers) : Type 0 where
  pub kind : number_of e.kind ≡ nat_abs (kind_at rs k)
  pub first : e.first ≡ nat_abs (first_at rs k)
  pub count : e.count ≡ nat_abs (count_at rs k)
  pub bound : e.bound ≡ bound_at rs k

-- The limits of Limits, as the code has them.
abbrev pub limits_named : Limits
limits_named = record {
  objectives = max_objectives;
  rows = max_rows;
  terms = max_terms;
  entries = max_entries;
  variable = max_variable;
  coef = max_coef;
  bound = max_bound;
  termroom = term_room;
  rowroom = row_room;
}
