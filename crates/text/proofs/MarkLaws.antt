-- The marks of bytes that are written: a word and a space, a `;` and its line end. Assumes nothing.
use mathlib.Core.Path.{◌≡◌, refl, ap, ◌∙◌}
use mathlib.Core.Bool.{Bool, true, false, not, cond, ◌&&◌}
use mathlib.Core.List.{List, [], ◌∷◌, ◌++◌}
use Prim.Native.Nat.{ℕ, suc, ◌≤◌}
use native.Mathlib.Omega.{arith}
use borrow.Author.Tests.{ne_eqb}
use lib.Dec.{eqb}
use lib.IntN.{ℤ, pos, negsuc}
use lib.ListN.{length, get_or}
use Rattle.decimal.specs.Decimal.{decimal, integer, signed, is_digit, all_digits}
use Rattle.decimal.proofs.NumeralLaws.{and_left, and_right, and_both, is_digit-from, is_digit-to}
use Rattle.decimal.proofs.DecimalLaws.{decimal-digits, decimal-some}
use Rattle.words.specs.declared.Place.{Place}
use Rattle.words.specs.declared.Place.TheVariants.{Inside, Start, Comment}
use Rattle.words.specs.Bytes.{is_plain, keep, place_after, uncommented}
use Rattle.words.specs.Tokens.{Mark, word, stop, ended, shown, put, scan, marks_of, marks_at}
use Rattle.words.proofs.ByteLaws.{plain-blank, plain-stop, not-blank-after}
use Rattle.writing.specs.Writing.{literal_text, relation_text}

-- ---- bytes of a word

-- Each byte can be part of a word.
unfoldable pub all_plain : List ℕ → Bool
all_plain [] = true
all_plain (b ∷ w) = is_plain b && all_plain w

-- A word: some bytes, all plain.
pub record IsWord (w : List ℕ) : Type 0 where
  pub some_byte : 1 ≤ length w
  pub plain : all_plain w ≡ true

digit-plain : (b : ℕ) → is_digit b ≡ true → is_plain b ≡ true
digit-plain b h =
    let l : 48 ≤ b = is_digit-from b h in
    let m : b ≤ 57 = is_digit-to b h in
    simp (ne_eqb b 32 (λ e. omega arith), ne_eqb b 9 (λ e. omega arith), ne_eqb b 13 (λ e. omega arith), ne_eqb b 10 (λ e. omega arith), ne_eqb b 59 (λ e. omega arith))

digits-plain : (w : List ℕ) → all_digits w ≡ true → all_plain w ≡ true
unfolding all_plain all_digits
digits-plain [] h = refl
digits-plain (b ∷ w) h =
    and_both (is_plain b) (all_plain w) (digit-plain b (and_left (is_digit b) (all_digits w) h)) (digits-plain w (and_right (is_digit b) (all_digits w) h))

decimal-plain : (n : ℕ) → all_plain (decimal n) ≡ true
decimal-plain n = digits-plain (decimal n) (decimal-digits n)

pub signed_word : (z : ℤ) → IsWord (signed z)
unfolding all_plain
signed_word (pos n) = record { some_byte = omega arith; plain = decimal-plain n }
signed_word (negsuc n) = record { some_byte = omega arith; plain = decimal-plain (suc n) }

pub integer-word : (z : ℤ) → IsWord (integer z)
unfolding all_plain
integer-word (pos n) = record { some_byte = decimal-some n; plain = decimal-plain n }
integer-word (negsuc n) = record { some_byte = omega arith; plain = decimal-plain (suc n) }

pub literal-word : (z : ℤ) → IsWord (literal_text z)
unfolding all_plain
literal-word (pos n) = record { some_byte = omega arith; plain = decimal-plain n }
literal-word (negsuc n) = record { some_byte = omega arith; plain = decimal-plain (suc n) }

pub relation-word : (k : ℕ) → IsWord (relation_text k)
unfolding all_plain
relation-word k = by (eqb k 2) (eqb k 3)
  where
    by : (t u : Bool) → IsWord (cond t (62 ∷ (61 ∷ [])) (cond u (60 ∷ (61 ∷ [])) (61 ∷ [])))
    by true u = record { some_byte = omega arith; plain = refl }
    by false true = record { some_byte = omega arith; plain = refl }
    by false false = record { some_byte = omega arith; plain = refl }

pub min-word : IsWord (109 ∷ (105 ∷ (110 ∷ (58 ∷ []))))
unfolding all_plain
min-word = record { some_byte = omega arith; plain = refl }

-- ---- marks_at

module _ (rest : List ℕ) where
  -- no plain byte is a line end, so the line goes on
  word-uncommented : (w : List ℕ) → all_plain w ≡ true → uncommented Inside (w ++ (32 ∷ rest)) ≡ w ++ (32 ∷ uncommented Inside rest)
  unfolding all_plain uncommented
  word-uncommented [] h = refl
  word-uncommented (b ∷ w) h =
      ap (λ (p : Place). b ∷ uncommented p (w ++ (32 ∷ rest))) (not-blank-after b (plain-blank b (and_left (is_plain b) (all_plain w) h)))
      ∙ ap (λ (l : List ℕ). b ∷ l) (word-uncommented w (and_right (is_plain b) (all_plain w) h))

  word-scan : (w : List ℕ) → all_plain w ≡ true → scan (w ++ (32 ∷ rest)) ≡ record { begun = w; marks = marks_of rest }
  unfolding all_plain scan
  word-scan [] h = refl
  word-scan (b ∷ w) h =
      let p : is_plain b ≡ true = and_left (is_plain b) (all_plain w) h in
      ap (λ (t : Bool). put t (eqb b 59) b (scan (w ++ (32 ∷ rest)))) (plain-blank b p)
      ∙ ap (λ (t : Bool). put false t b (scan (w ++ (32 ∷ rest)))) (plain-stop b p)
      ∙ ap (put false false b) (word-scan w (and_right (is_plain b) (all_plain w) h))

word-ended : (w : List ℕ) (ms : List Mark) → 1 ≤ length w → ended w ms ≡ word w ∷ ms
word-ended [] ms h = absurd (omega arith)
word-ended (b ∷ w) ms h = refl

-- a word and a space
pub marks-word : {w : List ℕ} → IsWord w → (rest : List ℕ) → marks_at Inside (w ++ (32 ∷ rest)) ≡ word w ∷ marks_at Inside rest
marks-word {w} h rest =
    ap marks_of (word-uncommented rest w h.plain)
    ∙ ap shown (word-scan (uncommented Inside rest) w h.plain)
    ∙ word-ended w (marks_at Inside rest) h.some_byte

-- a `;` and a line end
pub marks-stop : (rest : List ℕ) → marks_at Inside (59 ∷ (10 ∷ rest)) ≡ stop ∷ marks_at Start rest
unfolding uncommented scan
marks-stop rest = refl

-- a line whose first byte is no `*` is no comment
pub marks_line : (bs : List ℕ) → (get_or bs 0 0 ≡ 42 → ⊥) → marks_at Start bs ≡ marks_at Inside bs
unfolding uncommented
marks_line [] h = refl
marks_line (b ∷ bs) h = ap (λ (t : Bool). marks_of (keep (not t) b (uncommented (cond t Comment (place_after b)) bs))) (ne_eqb b 42 h)
