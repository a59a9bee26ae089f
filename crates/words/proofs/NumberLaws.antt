-- Laws of what a word says, by its first bytes. Assumes nothing.
use mathlib.Core.Path.{◌≡◌, refl, sym, ap, ◌∙◌, subst}
use mathlib.Core.Bool.{Bool, true, false, cond}
use mathlib.Core.List.{List, [], ◌∷◌}
use Rattle.std.specs.Prelude.{Option, None, Some, is_some}
use lib.Dec.{T}
use Rattle.instance.specs.declared.kinds.Kind.{Kind}
use Prim.Native.Nat.{ℕ, suc, ◌-◌, ◌^◌, ◌≤◌, ◌<◌}
use native.Mathlib.Omega.{arith}
use lib.Dec.{eqb}
use lib.IntN.{ℤ, pos, nat_abs, neg_ℤ, ◌-ℤ◌, +ℤ_idl}
use lib.ListN.{length, get_or, take, drop}
use lib.Seq.{take_all}
use borrow.Author.Tests.{eq-eqb, ne_eqb}
use Rattle.decimal.specs.Decimal.{is_numeral, digits_value, read_numeral}
use Rattle.std.proofs.lemmas.Option.{cond_some}
use mir.Syntax.{w64}
use mir.Val.{SFits, to_z, of_z}
use Rattle.integers.proofs.SignedLaws.{fits-as, read_as, sfits-abs, bits-value, abs_neg}
use Rattle.decimal.proofs.NumeralLaws.{read-less}
use Rattle.words.specs.Answers.{RelationIs}
use Rattle.words.specs.Numbers.{sign_of, digits, number, negated, literal, relation}

-- what is left of a word after k bytes, as a part of a slice
abbrev pub rest : ℕ → List ℕ → List ℕ
rest k w = take (length w - k) (drop k w)

rest-one : (b : ℕ) (w : List ℕ) → rest 1 (b ∷ w) ≡ w
rest-one b w = take_all (suc (length w) - 1) w (omega arith)

rest-two : (a b : ℕ) (w : List ℕ) → rest 2 (a ∷ (b ∷ w)) ≡ w
rest-two a b w = take_all (suc (suc (length w)) - 2) w (omega arith)

-- ---- digits

-- what is read of a numeral, and its opposite
module _ (w : List ℕ) (v : ℕ) (h : Some v ≡ read_numeral w) where
  few : v < 2 ^ 63
  few = omega (arith, read-less w v (sym h))

  pub digits-fit : SFits w64 (pos v)
  digits-fit = sfits-abs w64 (pos v) few

  opposite-fits : SFits w64 (neg_ℤ (pos v))
  opposite-fits = sfits-abs w64 (neg_ℤ (pos v)) (let e : nat_abs (neg_ℤ (pos v)) ≡ v = abs_neg (pos v) in omega (arith, few))

  opposite : pos 0 -ℤ to_z w64 v ≡ neg_ℤ (pos v)
  opposite = ap (λ (z : ℤ). pos 0 -ℤ z) (bits-value w64 v few) ∙ +ℤ_idl (neg_ℤ (pos v))

  pub opposite-fit : SFits w64 (pos 0 -ℤ to_z w64 v)
  opposite-fit = fits-as opposite opposite-fits

  signed : (negative : Bool) → Some (sign_of negative v) ≡ digits negative w
  signed negative =
      let e = cond_some (is_numeral w) (digits_value 0 w) v (sym h) in
      sym (ap (λ (t : Bool). cond t (Some (sign_of negative (digits_value 0 w))) None) (e.0) ∙ ap (λ (n : ℕ). Some (sign_of negative n)) (e.1))

  pub digits-plain : (negative : Bool) → negative ≡ false → Some (to_z w64 v) ≡ digits negative w
  digits-plain negative n = ap Some (bits-value w64 v few) ∙ signed false ∙ ap (λ (b : Bool). digits b w) (sym n)

  pub digits-opposite : (negative : Bool) → negative ≡ true → Some (to_z w64 (of_z w64 (pos 0 -ℤ to_z w64 v))) ≡ digits negative w
  digits-opposite negative n = ap Some (read_as opposite opposite-fits) ∙ signed true ∙ ap (λ (b : Bool). digits b w) (sym n)

digits-empty : (negative : Bool) → digits negative [] ≡ None
unfolding is_numeral
digits-empty negative = refl

-- ---- number

pub number-empty : (w : List ℕ) → length w ≡ 0 → number w ≡ None
number-empty [] h = refl
number-empty (b ∷ w) h = absurd (omega arith)

pub number-plus : (w : List ℕ) → (length w ≡ 0 → ⊥) → get_or w 0 0 ≡ 43 → number w ≡ digits false (rest 1 w)
number-plus [] n e = absurd (n refl)
number-plus (b ∷ w) n e = ap (λ (t : Bool). cond t (digits false w) (cond (eqb b 45) (digits true w) (digits false (b ∷ w)))) (eq-eqb b 43 e) ∙ ap (digits false) (sym (rest-one b w))

pub number-minus : (w : List ℕ) → (length w ≡ 0 → ⊥) → (get_or w 0 0 ≡ 43 → ⊥) → get_or w 0 0 ≡ 45 → number w ≡ digits true (rest 1 w)
number-minus [] n m e = absurd (n refl)
number-minus (b ∷ w) n m e =
    ap (λ (t : Bool). cond t (digits false w) (cond (eqb b 45) (digits true w) (digits false (b ∷ w)))) (ne_eqb b 43 m)
    ∙ ap (λ (t : Bool). cond t (digits true w) (digits false (b ∷ w))) (eq-eqb b 45 e) ∙ ap (digits true) (sym (rest-one b w))

pub number-plain : (w : List ℕ) → (length w ≡ 0 → ⊥) → (get_or w 0 0 ≡ 43 → ⊥) → (get_or w 0 0 ≡ 45 → ⊥) → number w ≡ digits false w
number-plain [] n m e = absurd (n refl)
number-plain (b ∷ w) n m e =
    ap (λ (t : Bool). cond t (digits false w) (cond (eqb b 45) (digits true w) (digits false (b ∷ w)))) (ne_eqb b 43 m)
    ∙ ap (λ (t : Bool). cond t (digits true w) (digits false (b ∷ w))) (ne_eqb b 45 e)

-- ---- literal

choose-same : {A : Type 0} (t : Bool) (x : A) → cond t x x ≡ x
choose-same true x = refl
choose-same false x = refl

pub literal-short : (w : List ℕ) → length w < 2 → literal w ≡ None
literal-short [] h = refl
literal-short (b ∷ []) h =
    ap (λ (z : Option ℤ). cond (eqb b 120) z (cond (eqb b 126) None None)) (digits-empty false)
    ∙ ap (λ (z : Option ℤ). cond (eqb b 120) None z) (choose-same (eqb b 126) None) ∙ choose-same (eqb b 120) None
literal-short (b ∷ (d ∷ w)) h = absurd (omega arith)

pub literal-plain : (w : List ℕ) → 2 ≤ length w → get_or w 0 0 ≡ 120 → literal w ≡ digits false (rest 1 w)
literal-plain [] h e = absurd (omega arith)
literal-plain (b ∷ w) h e = ap (λ (t : Bool). cond t (digits false w) (cond (eqb b 126) (negated w) None)) (eq-eqb b 120 e) ∙ ap (digits false) (sym (rest-one b w))

-- no `x` in front: what `~` and the rest say
literal-other : (b : ℕ) (w : List ℕ) → (b ≡ 120 → ⊥) → literal (b ∷ w) ≡ cond (eqb b 126) (negated w) None
literal-other b w n = ap (λ (t : Bool). cond t (digits false w) (cond (eqb b 126) (negated w) None)) (ne_eqb b 120 n)

pub literal-bare : (w : List ℕ) → 2 ≤ length w → (get_or w 0 0 ≡ 120 → ⊥) → (get_or w 0 0 ≡ 126 → ⊥) → literal w ≡ None
literal-bare [] h n m = absurd (omega arith)
literal-bare (b ∷ w) h n m = literal-other b w n ∙ ap (λ (t : Bool). cond t (negated w) None) (ne_eqb b 126 m)

pub literal-odd : (w : List ℕ) → 2 ≤ length w → (get_or w 0 0 ≡ 120 → ⊥) → get_or w 0 0 ≡ 126 → (get_or w 1 0 ≡ 120 → ⊥) → literal w ≡ None
literal-odd [] h n e m = absurd (omega arith)
literal-odd (b ∷ []) h n e m = absurd (omega arith)
literal-odd (b ∷ (d ∷ w)) h n e m =
    literal-other b (d ∷ w) n ∙ ap (λ (t : Bool). cond t (negated (d ∷ w)) None) (eq-eqb b 126 e) ∙ ap (λ (t : Bool). cond t (digits true w) None) (ne_eqb d 120 m)

pub literal-negated : (w : List ℕ) → 2 ≤ length w → (get_or w 0 0 ≡ 120 → ⊥) → get_or w 0 0 ≡ 126 → get_or w 1 0 ≡ 120 → literal w ≡ digits true (rest 2 w)
literal-negated [] h n e m = absurd (omega arith)
literal-negated (b ∷ []) h n e m = absurd (omega arith)
literal-negated (b ∷ (d ∷ w)) h n e m =
    literal-other b (d ∷ w) n ∙ ap (λ (t : Bool). cond t (negated (d ∷ w)) None) (eq-eqb b 126 e) ∙ ap (λ (t : Bool). cond t (digits true w) None) (eq-eqb d 120 m)
    ∙ ap (digits true) (sym (rest-two b d w))

-- ---- relation

-- a word that stands for a kind of row, and one that does not
pub relation-some : (w : List ℕ) (r : Option Kind) → RelationIs w r → is_some r ≡ true → relation w ≡ 0 → ⊥
relation-some w (Some k) e h = e.1
relation-some w None e h = absurd (subst T (sym h) tt)

pub relation-none : (w : List ℕ) (r : Option Kind) → RelationIs w r → is_some r ≡ false → relation w ≡ 0
relation-none w None e h = e
relation-none w (Some k) e h = absurd (subst T h tt)
