-- The parts of a text: literals by their sign, a statement by its kind, terms and statements one after the other. Assumes nothing.
use mathlib.Core.Path.{◌≡◌, sym, ap, ◌∙◌, subst}
use mathlib.Core.Bool.{Bool, true, false, cond}
use mathlib.Core.List.{List, [], ◌∷◌, ◌++◌}
use Prim.Native.Nat.{ℕ, zero, suc, ◌+◌, ◌-◌, ◌≤◌, ◌<◌}
use native.Mathlib.Omega.{arith}
use borrow.Author.Tests.{ltb-true, eq-eqb, ne_eqb}
use lib.Dec.{T, eqb}
use lib.IntN.{ℤ, pos, negsuc, nat_abs}
use lib.Signed.{lt_z}
use lib.ListN.{length, length-append}
use mir.Syntax.{w64}
use mir.Val.{SFits, to_z, of_z}
use Rattle.decimal.specs.Decimal.{decimal, integer, signed}
use Rattle.integers.proofs.SignedLaws.{plain}
use Rattle.instance.specs.Lists.{tabulate}
use Rattle.instance.specs.Terms.{Term}
use Rattle.instance.specs.Rows.{Entry}
use Rattle.writing.specs.Writing.{literal_text, term_text, terms_text, head_text, relation_text, bound_text, statement_text, statements_text}

-- ---- literal_text: of z, and of z as it is read back from its bits; m is the size of z

neg-literal : (z : ℤ) (m : ℕ) → lt_z z (pos 0) ≡ true → m ≡ nat_abs z → 126 ∷ (120 ∷ decimal m) ≡ literal_text z
neg-literal (pos n) m t e = absurd (omega (arith, ltb-true n 0 t))
neg-literal (negsuc n) m t e = ap (λ (k : ℕ). 126 ∷ (120 ∷ decimal k)) e

pos-literal : (z : ℤ) (m : ℕ) → lt_z z (pos 0) ≡ false → m ≡ nat_abs z → 120 ∷ decimal m ≡ literal_text z
pos-literal (pos n) m t e = ap (λ (k : ℕ). 120 ∷ decimal k) e
pos-literal (negsuc n) m t e = absurd (subst T t tt)

module _ (z : ℤ) (f : SFits w64 z) (m : ℕ) (size : m ≡ nat_abs (to_z w64 (of_z w64 z))) where
  pub literal-neg : lt_z (to_z w64 (of_z w64 z)) (pos 0) ≡ true → 126 ∷ (120 ∷ decimal m) ≡ literal_text z
  literal-neg t = neg-literal z m (plain (λ (y : ℤ). lt_z y (pos 0) ≡ true) f t) (plain (λ (y : ℤ). m ≡ nat_abs y) f size)

  pub literal-pos : lt_z (to_z w64 (of_z w64 z)) (pos 0) ≡ false → 120 ∷ decimal m ≡ literal_text z
  literal-pos t = pos-literal z m (plain (λ (y : ℤ). lt_z y (pos 0) ≡ false) f t) (plain (λ (y : ℤ). m ≡ nat_abs y) f size)

-- as long as the number, whose minus `~` stands for, and `x`
pub literal-length : (z : ℤ) → length (literal_text z) ≡ 1 + length (integer z)
literal-length (pos n) = omega arith
literal-length (negsuc n) = omega arith

-- ---- term_text

pub term-length : (t : Term) → length (term_text t) ≡ length (signed t.coef) + length (literal_text t.lit) + 2
term-length t =
    omega (
      arith,
      length-append (signed t.coef) (32 ∷ (literal_text t.lit ++ (32 ∷ []))),
      length-append (literal_text t.lit) (32 ∷ []),
    )

-- ---- head_text, relation_text, bound_text, by the kind

pick_yes : {kind k : ℕ} (a b : List ℕ) → kind ≡ k → a ≡ cond (eqb kind k) a b
pick_yes {kind} {k} a b e = ap (λ (t : Bool). cond t a b) (sym (eq-eqb kind k e))

pick_no : {kind k : ℕ} (a b : List ℕ) → (kind ≡ k → ⊥) → b ≡ cond (eqb kind k) a b
pick_no {kind} {k} a b h = ap (λ (t : Bool). cond t a b) (sym (ne_eqb kind k h))

module _ {kind : ℕ} where
  pub head-objective : kind ≡ 1 → 109 ∷ (105 ∷ (110 ∷ (58 ∷ (32 ∷ [])))) ≡ head_text kind
  head-objective e = pick_yes (109 ∷ (105 ∷ (110 ∷ (58 ∷ (32 ∷ []))))) [] e

  pub head-row : (kind ≡ 1 → ⊥) → [] ≡ head_text kind
  head-row h = pick_no (109 ∷ (105 ∷ (110 ∷ (58 ∷ (32 ∷ []))))) [] h

  pub relation-ge : kind ≡ 2 → 62 ∷ (61 ∷ []) ≡ relation_text kind
  relation-ge e = pick_yes (62 ∷ (61 ∷ [])) (cond (eqb kind 3) (60 ∷ (61 ∷ [])) (61 ∷ [])) e

  pub relation-le : (kind ≡ 2 → ⊥) → kind ≡ 3 → 60 ∷ (61 ∷ []) ≡ relation_text kind
  relation-le h e = pick_yes (60 ∷ (61 ∷ [])) (61 ∷ []) e ∙ pick_no (62 ∷ (61 ∷ [])) (cond (eqb kind 3) (60 ∷ (61 ∷ [])) (61 ∷ [])) h

  pub relation-eq : (kind ≡ 2 → ⊥) → (kind ≡ 3 → ⊥) → 61 ∷ [] ≡ relation_text kind
  relation-eq h l = pick_no (60 ∷ (61 ∷ [])) (61 ∷ []) l ∙ pick_no (62 ∷ (61 ∷ [])) (cond (eqb kind 3) (60 ∷ (61 ∷ [])) (61 ∷ [])) h

module _ {kind : ℕ} (bound : ℤ) where
  pub bound-objective : kind ≡ 1 → [] ≡ bound_text kind bound
  bound-objective e = pick_yes [] (relation_text kind ++ (32 ∷ (integer bound ++ (32 ∷ [])))) e

  pub bound-row : (kind ≡ 1 → ⊥) → relation_text kind ++ (32 ∷ (integer bound ++ (32 ∷ []))) ≡ bound_text kind bound
  bound-row h = pick_no [] (relation_text kind ++ (32 ∷ (integer bound ++ (32 ∷ [])))) h

  pub bound-length : (kind ≡ 1 → ⊥) → length (bound_text kind bound) ≡ length (relation_text kind) + length (integer bound) + 2
  bound-length h =
      sym (ap length (bound-row h))
      ∙ omega (
        arith,
        length-append (relation_text kind) (32 ∷ (integer bound ++ (32 ∷ []))),
        length-append (integer bound) (32 ∷ []),
      )

-- ---- statement_text

pub statement-length : (e : Entry) → length (statement_text e)
    ≡ length (head_text e.kind) + length (terms_text e.terms) + length (bound_text e.kind e.bound) + 2
statement-length e =
    omega (
      arith,
      length-append (head_text e.kind) (terms_text e.terms ++ (bound_text e.kind e.bound ++ (59 ∷ (10 ∷ [])))),
      length-append (terms_text e.terms) (bound_text e.kind e.bound ++ (59 ∷ (10 ∷ []))),
      length-append (bound_text e.kind e.bound) (59 ∷ (10 ∷ [])),
    )

-- ---- tabulate, from k up to `end`: one more, and none left

module _ {A : Type 0} (f : ℕ → A) where
  tabulate-suc : (k n m : ℕ) → n ≡ suc m → tabulate f k n ≡ f k ∷ tabulate f (k + 1) m
  unfolding tabulate
  tabulate-suc k n m e =
      ap (tabulate f k) e ∙ (let s : suc k ≡ k + 1 = omega arith in ap (λ (j : ℕ). f k ∷ tabulate f j m) s)

  pub tabulate-more : (k end : ℕ) → k < end → tabulate f k (end - k) ≡ f k ∷ tabulate f (k + 1) (end - (k + 1))
  tabulate-more k end h = tabulate-suc k (end - k) (end - (k + 1)) (omega arith)

  pub tabulate-none : (k end : ℕ) → end ≤ k → tabulate f k (end - k) ≡ []
  unfolding tabulate
  tabulate-none k end h = let z : end - k ≡ zero = omega arith in ap (tabulate f k) z

-- ---- terms_text, statements_text, of what is tabulated from k up to `end`

module _ (f : ℕ → Term) (k end : ℕ) where
  pub terms-more : k < end → terms_text (tabulate f k (end - k)) ≡ term_text (f k) ++ terms_text (tabulate f (k + 1) (end - (k + 1)))
  unfolding terms_text
  terms-more h = ap terms_text (tabulate-more f k end h)

  pub terms-none : end ≤ k → terms_text (tabulate f k (end - k)) ≡ []
  unfolding terms_text
  terms-none h = ap terms_text (tabulate-none f k end h)

-- n terms from `first` on, up to their end
pub terms-span : (f : ℕ → Term) (first n : ℕ) → terms_text (tabulate f first (first + n - first)) ≡ terms_text (tabulate f first n)
terms-span f first n =
    let e : first + n - first ≡ n = omega arith in
    ap (λ (k : ℕ). terms_text (tabulate f first k)) e

module _ (f : ℕ → Entry) (k end : ℕ) where
  pub statements-more : k < end → statements_text (tabulate f k (end - k)) ≡ statement_text (f k) ++ statements_text (tabulate f (k + 1) (end - (k + 1)))
  unfolding statements_text
  statements-more h = ap statements_text (tabulate-more f k end h)

  pub statements-none : end ≤ k → statements_text (tabulate f k (end - k)) ≡ []
  unfolding statements_text
  statements-none h = ap statements_text (tabulate-none f k end h)
