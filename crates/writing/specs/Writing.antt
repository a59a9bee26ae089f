-- Document 01, 'Instance text', 'Written text': an instance as bytes.
use Rattle.std.specs.Prelude.{cond, List, [], ◌∷◌, ◌++◌, ℕ, suc, eqb, ℤ, pos, negsuc}
use Rattle.decimal.specs.Decimal.{decimal, integer, signed}
use Rattle.instance.specs.Terms.{Term}
use Rattle.instance.specs.Rows.{Entry}
use Rattle.instance.specs.Meaning.{Instance, entries}

-- A literal: `x` or `~x`, and the variable's number.
abbrev pub literal_text : ℤ → List ℕ
literal_text (pos n) = 120 ∷ decimal n
literal_text (negsuc n) = 126 ∷ (120 ∷ decimal (suc n))

-- A term: sign, digits, space, literal, space.
abbrev pub term_text : Term → List ℕ
term_text t = signed t.coef ++ (32 ∷ (literal_text t.lit ++ (32 ∷ [])))

-- Terms, one after the other.
unfoldable pub terms_text : List Term → List ℕ
terms_text [] = []
terms_text (t ∷ ts) = term_text t ++ terms_text ts

-- The relation of a row: kind 2 is `>=`, 3 is `<=`, 4 is `=`.
abbrev pub relation_text : ℕ → List ℕ
relation_text kind = cond (eqb kind 2) (62 ∷ (61 ∷ [])) (cond (eqb kind 3) (60 ∷ (61 ∷ [])) (61 ∷ []))

-- What stands before the terms: `min:` and a space, or nothing for a row.
abbrev pub head_text : ℕ → List ℕ
head_text kind = cond (eqb kind 1) (109 ∷ (105 ∷ (110 ∷ (58 ∷ (32 ∷ []))))) []

-- What stands after the terms: for a row the relation, space, bound (a minus if negative, never a plus), space.
abbrev pub bound_text : ℕ → ℤ → List ℕ
bound_text kind bound = cond (eqb kind 1) [] (relation_text kind ++ (32 ∷ (integer bound ++ (32 ∷ []))))

-- A statement: these, and then `;` and LF.
abbrev pub statement_text : Entry → List ℕ
statement_text e = head_text e.kind ++ (terms_text e.terms ++ (bound_text e.kind e.bound ++ (59 ∷ (10 ∷ []))))

-- Statements, one after the other.
unfoldable pub statements_text : List Entry → List ℕ
statements_text [] = []
statements_text (e ∷ es) = statement_text e ++ statements_text es

-- An instance: its objectives, then its rows.
abbrev pub instance_text : Instance → List ℕ
instance_text i = statements_text (entries i)
