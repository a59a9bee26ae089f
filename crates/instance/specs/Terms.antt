-- Document 01, 'Instance text': the value of a term and of a sum; 'The front': an assignment's number.
use Rattle.std.specs.Prelude.{Bool, not, cond, List, [], ◌∷◌, ℕ, ◌-◌, ◌/◌, ◌%◌, ◌^◌, ◌≤◌, max, eqb, ℤ, pos, negsuc, nat_abs, ◌+ℤ◌}
use Rattle.instance.specs.Limits.{max_coef, max_variable}

-- A coefficient and a literal, i for xi and -i for ~xi.
pub record Term : Type 0 where
  pub coef : ℤ
  pub lit : ℤ

-- x_i adds 2^(i-1) to an assignment's number: bit j is that of x_(j+1).
abbrev pub bit_set : ℕ → ℕ → Bool
bit_set a j = eqb ((a / 2 ^ j) % 2) 1

-- i is true where x_i is 1, -i where it is 0.
abbrev pub lit_true : ℤ → ℕ → Bool
lit_true (pos n) a = bit_set a (n - 1)
lit_true (negsuc n) a = not (bit_set a n)

-- A term's value is its coefficient if its literal is true, else 0.
abbrev pub term_value : Term → ℕ → ℤ
term_value t a = cond (lit_true t.lit a) t.coef (pos 0)

-- Each term counts; an empty sum is 0.
unfoldable pub sum : List Term → ℕ → ℤ
sum [] a = pos 0
sum (t ∷ ts) a = term_value t a +ℤ sum ts a

-- The highest variable named in any term, 0 if none is.
unfoldable pub highest : List Term → ℕ
highest [] = 0
highest (t ∷ ts) = max (nat_abs t.lit) (highest ts)

-- The literal names one of x1 to x64.
pub record IsLit (z : ℤ) : Type 0 where
  pub low : 1 ≤ nat_abs z
  pub high : nat_abs z ≤ max_variable

-- Coefficient and variable are in range.
pub record TermOk (t : Term) : Type 0 where
  pub small : nat_abs t.coef ≤ max_coef
  pub named : IsLit t.lit
