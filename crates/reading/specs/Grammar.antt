-- Document 01, 'Instance text': statements end at `;`; what each may say.
use Rattle.std.specs.Prelude.{Bool, true, false, cond, List, [], ◌∷◌, ℕ, eqb, ℤ, pos}
use Rattle.std.specs.Prelude.{Option, None, Some}
use Rattle.words.specs.Tokens.{Mark, word, stop}
use Rattle.words.specs.Numbers.{number, literal, relation, is_min}
use Rattle.instance.specs.Terms.{Term}
use Rattle.instance.specs.Rows.{Entry}

-- The words of a statement.
abbrev pub Words : Type 0
Words = List (List ℕ)

-- The statements that end at a `;`, each without it, and the words after the last `;`.
pub record Statements : Type 0 where
  pub ended : List Words
  pub after : Words

-- A word in front belongs to the first statement.
abbrev pub add_word : List ℕ → List Words → Words → Statements
add_word w [] after = record { ended = []; after = w ∷ after }
add_word w (ws ∷ ended) after = record { ended = (w ∷ ws) ∷ ended; after = after }

unfoldable pub statements : List Mark → Statements
statements [] = record { ended = []; after = [] }
statements (stop ∷ ms) = record { ended = [] ∷ (statements ms).ended; after = (statements ms).after }
statements (word w ∷ ms) = add_word w (statements ms).ended (statements ms).after

-- A term is a coefficient word and a literal word.
abbrev pub term_of : Option ℤ → Option ℤ → Option Term
term_of None l = None
term_of (Some c) None = None
term_of (Some c) (Some l) = Some (record { coef = c; lit = l })

-- A term in front of an objective's or a row's.
abbrev pub add_term : Option Term → Option Entry → Option Entry
add_term None e = None
add_term (Some t) None = None
add_term (Some t) (Some e) = Some (record { kind = e.kind; terms = t ∷ e.terms; bound = e.bound })

-- After `min:`: zero or more terms.
unfoldable pub objective : Words → Option Entry
objective [] = Some (record { kind = 1; terms = []; bound = pos 0 })
objective (c ∷ []) = None
objective (c ∷ (l ∷ ws)) = add_term (term_of (number c) (literal l)) (objective ws)

-- After a relation: a bound and nothing more.
abbrev pub row_end : ℕ → Option ℤ → Words → Option Entry
row_end kind None ws = None
row_end kind (Some b) [] = Some (record { kind = kind; terms = []; bound = b })
row_end kind (Some b) (w ∷ ws) = None

-- A relation ends the terms: kind 0 is None.
abbrev pub row_step : Bool → Option Entry → Option Entry → Option Entry
row_step true more end = more
row_step false more end = end

-- Row: zero or more terms, then `>=`, `<=` or `=`, then a bound.
unfoldable pub row : Words → Option Entry
row [] = None
row (w ∷ []) = None
row (w ∷ (v ∷ ws)) = row_step (eqb (relation w) 0) (add_term (term_of (number w) (literal v)) (row ws)) (row_end (relation w) (number v) ws)

-- An objective or a row; an empty statement breaks the grammar.
abbrev pub statement : Words → Option Entry
statement [] = None
statement (w ∷ ws) = cond (is_min w) (objective ws) (row (w ∷ ws))
