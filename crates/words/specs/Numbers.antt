-- Document 01, 'Instance text': what a word says.
use Rattle.std.specs.Prelude.{Bool, true, false, cond, ◌&&◌, List, [], ◌∷◌, ℕ, eqb, ℤ, pos, neg_ℤ}
use Rattle.std.specs.Prelude.{Option, None, Some}
use Rattle.decimal.specs.Decimal.{is_numeral, digits_value}

-- A size with a sign; -0 is 0.
abbrev pub sign_of : Bool → ℕ → ℤ
sign_of false n = pos n
sign_of true n = neg_ℤ (pos n)

-- 1 to 10 digits, with a sign that is known.
abbrev pub digits : Bool → List ℕ → Option ℤ
digits negative w = cond (is_numeral w) (Some (sign_of negative (digits_value 0 w))) None

-- A coefficient or bound is an optional `+` or `-` and 1 to 10 digits.
abbrev pub number : List ℕ → Option ℤ
number [] = None
number (b ∷ w) = cond (eqb b 43) (digits false w) (cond (eqb b 45) (digits true w) (digits false (b ∷ w)))

-- After `~`: `x` and 1 to 10 digits.
abbrev pub negated : List ℕ → Option ℤ
negated [] = None
negated (b ∷ w) = cond (eqb b 120) (digits true w) None

-- A literal is `x` or `~x` and 1 to 10 digits.
abbrev pub literal : List ℕ → Option ℤ
literal [] = None
literal (b ∷ w) = cond (eqb b 120) (digits false w) (cond (eqb b 126) (negated w) None)

-- The kind of row that a relation stands for: `>=` 2, `<=` 3, `=` 4; any other word 0.
abbrev pub relation : List ℕ → ℕ
relation [] = 0
relation (a ∷ []) = cond (eqb a 61) 4 0
relation (a ∷ (b ∷ [])) = cond (eqb b 61) (cond (eqb a 62) 2 (cond (eqb a 60) 3 0)) 0
relation (a ∷ (b ∷ (c ∷ w))) = 0

-- The word `min:`.
abbrev pub is_min : List ℕ → Bool
is_min [] = false
is_min (a ∷ []) = false
is_min (a ∷ (b ∷ [])) = false
is_min (a ∷ (b ∷ (c ∷ []))) = false
is_min (a ∷ (b ∷ (c ∷ (d ∷ [])))) = eqb a 109 && (eqb b 105 && (eqb c 110 && eqb d 58))
is_min (a ∷ (b ∷ (c ∷ (d ∷ (e ∷ w))))) = false
