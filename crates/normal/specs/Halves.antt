-- Half rows: a row of document 01 in natural numbers. A row `>=` is one half row, `<=` is one with all signs turned, `=` is both.
use Rattle.std.specs.Prelude.{◌≡◌, Bool, true, false, cond, List, [], ◌∷◌, map, ℕ, zero, suc, ◌+◌, ◌-◌, ◌/◌, ◌%◌, ◌^◌, ◌≤◌, eqb, ℤ, pos, negsuc, nat_abs, neg_ℤ, ◌+ℤ◌}
use Rattle.instance.specs.Terms.{Term}
use Rattle.instance.specs.Rows.{Entry}
use Rattle.normal.specs.declared.Half.{Half}

-- A number, its sign turned or not.
abbrev pub turned : Bool → ℤ → ℤ
turned false z = z
turned true z = neg_ℤ z

-- A coefficient is below 0, its sign turned or not.
abbrev pub is_negative : Bool → ℤ → Bool
is_negative false (pos n) = false
is_negative false (negsuc n) = true
is_negative true (pos zero) = false
is_negative true (pos (suc n)) = true
is_negative true (negsuc n) = false

-- A coefficient of 0 or more gives nothing where its literal is false; a negative one, its size added, nothing where it is true.
abbrev pub off_side : ℤ → Bool → ℕ
off_side (pos n) true = 1
off_side (pos n) false = 0
off_side (negsuc n) true = 0
off_side (negsuc n) false = 1

-- A term of a row as a term of a half row: a negative coefficient's size is added to both sides.
abbrev pub half_of : Bool → Term → Half
half_of turn t = record {
  term = record { weight = nat_abs t.coef; variable = nat_abs t.lit - 1; off = off_side t.lit (is_negative turn t.coef) };
  lost = cond (is_negative turn t.coef) (nat_abs t.coef) 0;
}

-- Variable j, from 0, of an assignment's number.
abbrev pub bit_of : ℕ → ℕ → ℕ
bit_of a j = (a / 2 ^ j) % 2

-- What a term of a half row gives.
abbrev pub gives : Half → ℕ → ℕ
gives h a = cond (eqb (bit_of a h.term.variable) h.term.off) 0 h.term.weight

-- What all give, and what was added for all.
unfoldable pub gives_all : List Half → ℕ → ℕ
gives_all [] a = 0
gives_all (h ∷ hs) a = gives h a + gives_all hs a

unfoldable pub lost_all : List Half → ℕ
lost_all [] = 0
lost_all (h ∷ hs) = h.lost + lost_all hs

-- The terms of a half row of a row.
abbrev pub halves_of : Bool → Entry → List Half
halves_of turn e = map (half_of turn) e.terms

-- A number, 0 where it is below 0.
abbrev pub at_least_zero : ℤ → ℕ
at_least_zero (pos n) = n
at_least_zero (negsuc n) = 0

-- What a half row needs: the bound with what was added, 0 where that is below 0.
abbrev pub need_by : Bool → ℤ → ℕ → ℕ
need_by turn bound lost = at_least_zero (turned turn bound +ℤ pos lost)

abbrev pub need_of : Bool → Entry → ℕ
need_of turn e = need_by turn e.bound (lost_all (halves_of turn e))

-- A half row is met.
abbrev pub HalfMet : Bool → Entry → ℕ → Type 0
HalfMet turn e a = need_of turn e ≤ gives_all (halves_of turn e) a

-- The half rows of a row: kind 2 the plain one, kind 3 the turned one, kind 4 both.
pub record RowMet (e : Entry) (a : ℕ) : Type 0 where
  pub plain : (e.kind ≡ 3 → ⊥) → HalfMet false e a
  pub turned_met : (e.kind ≡ 2 → ⊥) → HalfMet true e a
