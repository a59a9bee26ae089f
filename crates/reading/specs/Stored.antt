-- What the reader stores in the term table while it reads a statement.
use Rattle.std.specs.Prelude.{Bool, cond, not, ◌&&◌, List, [], ◌∷◌, ℕ, suc, ◌+◌, ◌*◌, ltb, ℤ, set}
use Rattle.instance.specs.Limits.{max_terms}
use Rattle.instance.specs.Terms.{Term}
use Rattle.reading.specs.Reading.{is_wide, is_unnamed}

-- The term of a coefficient and a literal.
abbrev pub term_of : ℤ → ℤ → Term
term_of c l = record { coef = c; lit = l }

-- A term is stored at place k where there is room and it is in range.
abbrev pub is_stored : ℕ → Term → Bool
is_stored k t = ltb k max_terms && (not (is_wide t) && not (is_unnamed t))

abbrev pub store_at : List ℤ → ℕ → Term → List ℤ
store_at ts k t = cond (is_stored k t) (set (set ts (k * 2) t.coef) (k * 2 + 1) t.lit) ts

-- Terms one after the other, from place k on.
unfoldable pub stored : List ℤ → ℕ → List Term → List ℤ
stored ts k [] = ts
stored ts k (u ∷ us) = stored (store_at ts k u) (suc k) us
