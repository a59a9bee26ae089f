-- Document 01, 'Instance text', 'Refusal numbers' 1 to 9 and their order.
use Rattle.std.specs.Prelude.{Bool, true, false, not, cond, ◌||◌, ◌&&◌, List, [], ◌∷◌, ◌++◌, ℕ, zero, suc, ◌+◌, eqb, ltb, leb, nat_abs, length}
use Rattle.std.specs.Prelude.{Option, None, Some}
use Rattle.words.specs.declared.Place.TheVariants.{Start}
use Rattle.words.specs.Tokens.{Mark, marks_at}
use Rattle.instance.specs.Limits.{max_objectives, max_rows, max_terms, max_variable, max_coef, max_bound}
use Rattle.instance.specs.Terms.{Term, highest}
use Rattle.instance.specs.Rows.{Entry}
use Rattle.instance.specs.Meaning.{Instance}
use Rattle.instance.specs.Layout.{all_terms}
use Rattle.reading.specs.Grammar.{Words, statements, statement}

-- Some term of the list has p.
unfoldable pub any : (Term → Bool) → List Term → Bool
any p [] = false
any p (t ∷ ts) = p t || any p ts

-- The coefficient is out of range.
abbrev pub is_wide : Term → Bool
is_wide t = ltb max_coef (nat_abs t.coef)

-- The variable is 0 or above 64.
abbrev pub is_unnamed : Term → Bool
is_unnamed t = eqb (nat_abs t.lit) 0 || ltb max_variable (nat_abs t.lit)

-- A kind 1 entry is an objective.
abbrev pub is_first : Entry → Bool
is_first e = eqb e.kind 1

-- Fifth objective or 257th row.
abbrev pub is_full : List Entry → List Entry → Entry → Bool
is_full os rs e = cond (is_first e) (leb max_objectives (length os)) (leb max_rows (length rs))

-- The refusal number of an entry that follows objectives and rows, each of 4 to 8 in turn, or 0.
abbrev pub verdict : List Entry → List Entry → Entry → ℕ
verdict os rs e =
    cond (is_first e && ltb 0 (length rs)) 4
    (cond (is_full os rs e) 5
    (cond (any is_wide e.terms || ltb max_bound (nat_abs e.bound)) 6
    (cond (any is_unnamed e.terms) 7
    (cond (ltb max_terms (length (all_terms (os ++ rs)) + length e.terms)) 8 0))))

-- What reading a text finds: objectives and rows, or a refusal with its statement.
pub data Outcome : Type 0 where
  accepted : List Entry → List Entry → Outcome
  refused : ℕ → ℕ → Outcome

-- No refusal: go on.
abbrev pub go_on : ℕ → ℕ → Outcome → Outcome
go_on zero s more = more
go_on (suc k) s more = refused (suc k) s

-- An entry is added to the objectives or to the rows.
abbrev pub add_to : Bool → List Entry → Entry → List Entry
add_to true es e = es ++ (e ∷ [])
add_to false es e = es

-- Statement s: refusal 3, 4 to 8, or the entry is added and the next statement read.
abbrev pub take_one : Option Entry → ℕ → List Entry → List Entry → (List Entry → List Entry → Outcome) → Outcome
take_one None s os rs more = refused 3 s
take_one (Some e) s os rs more = go_on (verdict os rs e) s (more (add_to (is_first e) os e) (add_to (not (is_first e)) rs e))

-- After the last statement: words that no `;` ends are one more, which breaks the grammar; then there must be an objective.
abbrev pub finish : ℕ → List Entry → List Entry → Words → Outcome
finish s os rs (w ∷ ws) = refused 3 s
finish s [] rs [] = refused 9 0
finish s (o ∷ os) rs [] = accepted (o ∷ os) rs

-- The statements in turn, the first of them number s.
unfoldable pub read_on : ℕ → List Entry → List Entry → List Words → Words → Outcome
read_on s os rs [] after = finish s os rs after
read_on s os rs (ws ∷ more) after = take_one (statement ws) s os rs (λ os' rs'. read_on (suc s) os' rs' more after)

-- What the marks of a text say, from statement s on.
abbrev pub read_marks : ℕ → List Entry → List Entry → List Mark → Outcome
read_marks s os rs ms = read_on s os rs (statements ms).ended (statements ms).after

-- What a text says.
abbrev pub read_bytes : List ℕ → Outcome
read_bytes text = read_marks 1 [] [] (marks_at Start text)

-- The instance of objectives and rows: n is the highest variable named in any term.
abbrev pub instance_of : List Entry → List Entry → Instance
instance_of os rs = record { variables = highest (all_terms (os ++ rs)); objectives = os; rows = rs }
