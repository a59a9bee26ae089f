-- What an assignment gives depends on its bits below n only: sums, vectors and margins of an instance within the limits.
use mathlib.Core.Path.{◌≡◌, refl, sym, ap, ap₂, ◌∙◌, subst}
use mathlib.Core.Bool.{Bool, not, cond}
use mathlib.Core.List.{List, [], ◌∷◌, map, Memᴰ}
use Prim.Native.Nat.{ℕ, zero, suc, ◌+◌, ◌-◌, ◌/◌, ◌%◌, ◌^◌, ◌≤◌, ◌<◌}
use native.Mathlib.Decide.{dec_lt}
use native.Mathlib.Nat.{div-one}
use native.Mathlib.Omega.{arith}
use borrow.Author.Tests.{eqb-true, eq-eqb}
use lib.Dec.{eqb}
use lib.IntN.{ℤ, pos, negsuc, nat_abs, ◌+ℤ◌}
use lib.Signed.{le_z}
use lib.Pow.{field, mod-mod-pow, shr-shr, shr_lt}
use Rattle.instance.specs.Terms.{Term, bit_set, lit_true, sum}
use Rattle.instance.specs.Rows.{Entry, margin, margin_of, holds}
use Rattle.instance.specs.Meaning.{Instance, entries, vector}
use Rattle.instance.specs.Layout.{all_terms, Within}
use Rattle.instance.proofs.SumLaws.{highest-member}
use Rattle.instance.proofs.NumberLaws.{all_terms-member}

-- ---- bit_set
-- a and b have the same bits below n.
pub record SameBits (n a b : ℕ) : Type 0 where
  pub same : (j : ℕ) → j < n → bit_set a j ≡ bit_set b j

-- The remainder by 2 ^ n has the n low bits.
low_bit : (n a j : ℕ) → j < n → bit_set (a % 2 ^ n) j ≡ bit_set a j
low_bit n a j h =
    let m = n - (j + 1) in
    let e : n ≡ (m + 1) + j = omega arith in
    ap (λ (k : ℕ). eqb ((a % 2 ^ k / 2 ^ j) % 2) 1) e
    ∙ (ap (λ (x : ℕ). eqb (x % 2) 1) (field a (m + 1) j) ∙ ap (λ (x : ℕ). eqb x 1) (mod-mod-pow (a / 2 ^ j) m 1))

pub low_bits : (n a : ℕ) → SameBits n (a % 2 ^ n) a
low_bits n a = record { same = low_bit n a }

-- So two numbers of one remainder have the same low bits.
pub same_bits : (n a b : ℕ) → a % 2 ^ n ≡ b % 2 ^ n → SameBits n a b
same_bits n a b e = record { same = λ j h. sym (low_bit n a j h) ∙ (ap (λ (x : ℕ). bit_set x j) e ∙ low_bit n b j h) }

-- ---- a number below 2 ^ n is its n low bits
bit-half : (a j : ℕ) → bit_set a (suc j) ≡ bit_set (a / 2) j
bit-half a j =
    let e : suc j ≡ 1 + j = omega arith in
    ap (bit_set a) e ∙ ap (λ (x : ℕ). eqb (x % 2) 1) (sym (shr-shr a 1 j))

bit-odd : (a b : ℕ) → bit_set a 0 ≡ bit_set b 0 → a % 2 ≡ b % 2
bit-odd a b e = pick (dec_lt 0 (a % 2)) (dec_lt 0 (b % 2))
  where
    f : eqb (a % 2) 1 ≡ eqb (b % 2) 1
    f = ap (λ (x : ℕ). eqb (x % 2) 1) (sym (div-one a)) ∙ (e ∙ ap (λ (x : ℕ). eqb (x % 2) 1) (div-one b))

    pick : Dec (0 < a % 2) → Dec (0 < b % 2) → a % 2 ≡ b % 2
    pick (yes h) (yes l) = omega arith
    pick (yes h) (no l) = let g : b % 2 ≡ 1 = eqb-true (b % 2) 1 (sym f ∙ eq-eqb (a % 2) 1 (omega arith)) in omega arith
    pick (no h) (yes l) = let g : a % 2 ≡ 1 = eqb-true (a % 2) 1 (f ∙ eq-eqb (b % 2) 1 (omega arith)) in omega arith
    pick (no h) (no l) = omega arith

pub bits-unique : (n a b : ℕ) → a < 2 ^ n → b < 2 ^ n → SameBits n a b → a ≡ b
bits-unique zero a b h l s = omega arith
bits-unique (suc n) a b h l s =
    let e : suc n ≡ n + 1 = omega arith in
    let p : a / 2 < 2 ^ n = shr_lt n 1 (subst (λ (k : ℕ). a < 2 ^ k) e h) in
    let q : b / 2 < 2 ^ n = shr_lt n 1 (subst (λ (k : ℕ). b < 2 ^ k) e l) in
    let r : a / 2 ≡ b / 2 =
    bits-unique n (a / 2) (b / 2) p q (record { same = λ j m. sym (bit-half a j) ∙ (s.same (suc j) (omega arith) ∙ bit-half b j) })
    in
    omega (arith, bit-odd a b (s.same 0 (omega arith)))

module _ {n a b : ℕ} (s : SameBits n a b) where
  -- ---- lit_true, term_value, sum
  literal-low : (z : ℤ) → 1 ≤ nat_abs z → nat_abs z ≤ n → lit_true z a ≡ lit_true z b
  literal-low (pos k) l h = s.same (k - 1) (omega arith)
  literal-low (negsuc k) l h = ap not (s.same k (omega arith))

  pub sum_low : (ts : List Term) → ((t : Term) → Memᴰ t ts → (1 ≤ nat_abs t.lit) × (nat_abs t.lit ≤ n)) → sum ts a ≡ sum ts b
  unfolding sum
  sum_low [] o = refl
  sum_low (t ∷ ts) o =
      let h = o t (mathlib.Core.List.Memᴰ.head refl) in
      ap₂ ◌+ℤ◌ (ap (λ (x : Bool). cond x t.coef (pos 0)) (literal-low t.lit h.0 h.1)) (sum_low ts (λ u m. o u (mathlib.Core.List.Memᴰ.tail m)))

-- ---- vector, margin
module _ {i : Instance} (w : Within i) {a b : ℕ} (s : SameBits i.variables a b) where
  entry-low : (e : Entry) → Memᴰ e (entries i) → sum e.terms a ≡ sum e.terms b
  entry-low e m =
      sum_low s e.terms
      (λ t h.
      let u : Memᴰ t (all_terms (entries i)) = all_terms-member (entries i) e t m h in
      ((w.terms t u).named.low, subst (λ (k : ℕ). nat_abs t.lit ≤ k) (sym w.variables) (highest-member (all_terms (entries i)) t u)))

  values_low : (os : List Entry) → ((e : Entry) → Memᴰ e os → Memᴰ e (entries i)) → map (λ (o : Entry). sum o.terms a) os ≡ map (λ (o : Entry). sum o.terms b) os
  values_low [] h = refl
  values_low (o ∷ os) h = ap₂ ◌∷◌ (entry-low o (h o (mathlib.Core.List.Memᴰ.head refl))) (values_low os (λ e m. h e (mathlib.Core.List.Memᴰ.tail m)))

  pub vector-low : vector i a ≡ vector i b
  vector-low = values_low i.objectives (λ e m. mathlib.Core.List.Memᴰ.append_left i.rows m)

  pub margin-low : (e : Entry) → Memᴰ e i.rows → margin e a ≡ margin e b
  margin-low e m = ap (λ (x : ℤ). margin_of e.kind x e.bound) (entry-low e (mathlib.Core.List.Memᴰ.append_right i.objectives m))

  pub holds-low : (e : Entry) → Memᴰ e i.rows → holds e a ≡ holds e b
  holds-low e m = ap (le_z (pos 0)) (margin-low e m)
