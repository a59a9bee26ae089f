-- A term in natural numbers: what it gives is its value with what was added. Assumes nothing.
use mathlib.Core.Path.{◌≡◌, refl, sym, ap, ap₂, ◌∙◌}
use mathlib.Core.Bool.{Bool, true, false, not, cond}
use mathlib.Core.List.{List, [], ◌∷◌, map}
use Prim.Native.Nat.{ℕ, zero, suc, ◌-◌, ◌<◌}
use native.Mathlib.Omega.{arith}
use lib.Dec.{eqb}
use lib.IntN.{ℤ, pos, negsuc, nat_abs, ◌+ℤ◌, +ℤ_idl, +ℤ_idr, +ℤ_assoc, +ℤ_comm, neg_ℤ-+ℤ, pos-+ℤ-pos}
use Rattle.integers.proofs.SignedLaws.{sub-ge}
use Rattle.instance.specs.Terms.{Term, lit_true, term_value, sum}
use Rattle.normal.specs.Halves.{turned, is_negative, off_side, half_of, bit_of, gives, gives_all, lost_all}

-- ---- gives

-- two tests agree
same : Bool → Bool → Bool
same true t = t
same false t = not t

less_one : (n : ℕ) → negsuc n +ℤ pos (suc n) ≡ pos 0
less_one n = sub-ge (suc n) (suc n) (omega arith) ∙ ap pos none
  where
    none : suc n - suc n ≡ 0
    none = omega arith

-- by the literal's truth: nothing where it agrees with the sign, else the weight
core : (turn b : Bool) (c : ℤ) → pos (cond (same b (is_negative turn c)) 0 (nat_abs c)) ≡ turned turn (cond b c (pos 0)) +ℤ pos (cond (is_negative turn c) (nat_abs c) 0)
unfolding same
core false true (pos n) = sym (+ℤ_idr (pos n))
core false false (pos n) = refl
core false true (negsuc n) = sym (less_one n)
core false false (negsuc n) = sym (+ℤ_idl (pos (suc n)))
core true true (pos zero) = refl
core true false (pos zero) = refl
core true true (pos (suc n)) = sym (less_one n)
core true false (pos (suc n)) = sym (+ℤ_idl (pos (suc n)))
core true true (negsuc n) = sym (+ℤ_idr (pos (suc n)))
core true false (negsuc n) = refl

-- a bit against a side, by the literal's truth
plain-off : (b : ℕ) (n : ℕ) (neg : Bool) → b < 2 → eqb b (off_side (pos n) neg) ≡ same (eqb b 1) neg
unfolding same
plain-off zero n true h = refl
plain-off zero n false h = refl
plain-off (suc zero) n true h = refl
plain-off (suc zero) n false h = refl
plain-off (suc (suc b)) n neg h = absurd (omega arith)

negated-off : (b : ℕ) (n : ℕ) (neg : Bool) → b < 2 → eqb b (off_side (negsuc n) neg) ≡ same (not (eqb b 1)) neg
unfolding same
negated-off zero n true h = refl
negated-off zero n false h = refl
negated-off (suc zero) n true h = refl
negated-off (suc zero) n false h = refl
negated-off (suc (suc b)) n neg h = absurd (omega arith)

bit-small : (a j : ℕ) → bit_of a j < 2
bit-small a j = omega arith

off-same : (l : ℤ) (a : ℕ) (neg : Bool) → eqb (bit_of a (nat_abs l - 1)) (off_side l neg) ≡ same (lit_true l a) neg
off-same (pos n) a neg = plain-off (bit_of a (n - 1)) n neg (bit-small a (n - 1))
off-same (negsuc n) a neg = ap (λ (j : ℕ). eqb (bit_of a j) (off_side (negsuc n) neg)) down ∙ negated-off (bit_of a n) n neg (bit-small a n)
  where
    down : suc n - 1 ≡ n
    down = omega arith

-- what a term gives is its value, its sign turned or not, with what was added
pub half-gives : (turn : Bool) (t : Term) (a : ℕ) → pos (gives (half_of turn t) a) ≡ turned turn (term_value t a) +ℤ pos (half_of turn t).lost
half-gives turn t a =
    ap (λ (b : Bool). pos (cond b 0 (nat_abs t.coef))) (off-same t.lit a (is_negative turn t.coef))
    ∙ core turn (lit_true t.lit a) t.coef

-- ---- gives_all

turned-add : (turn : Bool) (x y : ℤ) → turned turn (x +ℤ y) ≡ turned turn x +ℤ turned turn y
turned-add false x y = refl
turned-add true x y = neg_ℤ-+ℤ x y

turned_zero : (turn : Bool) → turned turn (pos 0) ≡ pos 0
turned_zero false = refl
turned_zero true = refl

-- (a + b) + (c + d) = (a + c) + (b + d)
cross : (a b c d : ℤ) → (a +ℤ b) +ℤ (c +ℤ d) ≡ (a +ℤ c) +ℤ (b +ℤ d)
cross a b c d = +ℤ_assoc a b (c +ℤ d) ∙ ap (λ (z : ℤ). a +ℤ z) (sym (+ℤ_assoc b c d) ∙ ap (λ (z : ℤ). z +ℤ d) (+ℤ_comm b c) ∙ +ℤ_assoc c b d) ∙ sym (+ℤ_assoc a c (b +ℤ d))

pub halves-give : (turn : Bool) (ts : List Term) (a : ℕ) → pos (gives_all (map (half_of turn) ts) a) ≡ turned turn (sum ts a) +ℤ pos (lost_all (map (half_of turn) ts))
unfolding gives_all lost_all sum
halves-give turn [] a = sym (+ℤ_idr (turned turn (pos 0)) ∙ turned_zero turn)
halves-give turn (t ∷ ts) a =
    sym (pos-+ℤ-pos (gives (half_of turn t) a) (gives_all (map (half_of turn) ts) a))
    ∙ ap₂ ◌+ℤ◌ (half-gives turn t a) (halves-give turn ts a)
    ∙ cross (turned turn (term_value t a)) (pos (half_of turn t).lost) (turned turn (sum ts a)) (pos (lost_all (map (half_of turn) ts)))
    ∙ ap₂ ◌+ℤ◌ (sym (turned-add turn (term_value t a) (sum ts a))) (pos-+ℤ-pos (half_of turn t).lost (lost_all (map (half_of turn) ts)))
