-- How long the parts of a text can be: of any number, and of numbers in range. Assumes nothing.
use mathlib.Core.Path.{◌≡◌, ap}
use mathlib.Core.Bool.{Bool, true, false, cond}
use mathlib.Core.List.{List, [], ◌∷◌, ◌++◌}
use Prim.Native.Nat.{ℕ, zero, suc, ◌+◌, ◌/◌, ◌%◌, ◌^◌, ◌≤◌, ◌<◌}
use native.Mathlib.Omega.{arith}
use lib.Dec.{ltb, eqb}
use lib.IntN.{ℤ, pos, negsuc, nat_abs}
use lib.ListN.{length, length-append}
use Rattle.decimal.specs.Decimal.{decimal_in, decimal, digit_byte, integer, signed}
use Rattle.decimal.proofs.DecimalLaws.{decimal-length}
use Rattle.instance.specs.Terms.{Term, TermOk}
use Rattle.instance.specs.Rows.{Entry}
use Rattle.instance.specs.Layout.{ObjectiveOk, RowOk}
use Rattle.writing.specs.Limits.{max_term_text, max_row_text, objective_text}
use Rattle.writing.specs.Writing.{literal_text, term_text, terms_text, relation_text, statement_text}
use Rattle.writing.proofs.TextLaws.{term-length, head-objective, head-row, bound-objective, bound-length, statement-length}

-- the longer of two choices
pick-most : (t : Bool) (a b : List ℕ) (k : ℕ) → length a ≤ k → length b ≤ k → length (cond t a b) ≤ k
pick-most true a b k h l = h
pick-most false a b k h l = l

-- ---- of any number

decimal_in-most : (fuel n : ℕ) → length (decimal_in fuel n) ≤ fuel
unfolding decimal_in
decimal_in-most zero n = omega arith
decimal_in-most (suc fuel) n =
    pick-most (ltb n 10) (digit_byte n ∷ []) (decimal_in fuel (n / 10) ++ (digit_byte (n % 10) ∷ [])) (suc fuel)
    (omega arith)
    (omega (arith, length-append (decimal_in fuel (n / 10)) (digit_byte (n % 10) ∷ []), decimal_in-most fuel (n / 10)))

pub decimal-most : (n : ℕ) → length (decimal n) ≤ 20
decimal-most n = decimal_in-most 20 n

pub integer-most : (z : ℤ) → length (integer z) ≤ 21
integer-most (pos n) = omega (arith, decimal-most n)
integer-most (negsuc n) = omega (arith, decimal-most (suc n))

pub signed-most : (z : ℤ) → length (signed z) ≤ 21
signed-most z = omega (arith, decimal-most (nat_abs z))

pub relation-most : (kind : ℕ) → length (relation_text kind) ≤ 2
relation-most kind =
    pick-most (eqb kind 2) (62 ∷ (61 ∷ [])) (cond (eqb kind 3) (60 ∷ (61 ∷ [])) (61 ∷ [])) 2
    (omega arith)
    (pick-most (eqb kind 3) (60 ∷ (61 ∷ [])) (61 ∷ []) 2 (omega arith) (omega arith))

-- ---- of numbers in range

literal-in : (z : ℤ) → nat_abs z < 10 ^ 2 → length (literal_text z) ≤ 4
literal-in (pos n) h = omega (arith, decimal-length 2 n (omega arith) h)
literal-in (negsuc n) h = omega (arith, decimal-length 2 (suc n) (omega arith) h)

integer-in : (z : ℤ) → nat_abs z < 10 ^ 10 → length (integer z) ≤ 11
integer-in (pos n) h = omega (arith, decimal-length 10 n (omega arith) h)
integer-in (negsuc n) h = omega (arith, decimal-length 10 (suc n) (omega arith) h)

-- sign, 7 digits, space, `~x64`, space
pub term_in : (t : Term) → TermOk t → length (term_text t) ≤ max_term_text
term_in t o =
    omega (
      arith,
      term-length t,
      decimal-length 7 (nat_abs t.coef) (omega arith) (omega (arith, o.small)),
      literal-in t.lit (omega (arith, o.named.high)),
    )

-- `min: `, the terms, `;` and LF
pub objective-in : (e : Entry) → ObjectiveOk e → length (statement_text e) ≡ length (terms_text e.terms) + objective_text
objective-in e o =
    omega (
      arith,
      statement-length e,
      ap length (head-objective o.kind),
      ap length (bound-objective e.bound o.kind),
    )

-- the terms, relation, space, minus and 10 digits, space, `;` and LF
pub row_in : (e : Entry) → RowOk e → length (statement_text e) ≤ length (terms_text e.terms) + max_row_text
row_in e o =
    let row : e.kind ≡ 1 → ⊥ = λ h. omega (arith, o.kind_low) in
    omega (
      arith,
      statement-length e,
      ap length (head-row row),
      bound-length e.bound row,
      relation-most e.kind,
      integer-in e.bound (omega (arith, o.bound)),
    )
