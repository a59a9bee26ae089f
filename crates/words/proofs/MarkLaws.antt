-- Laws of the marks of a text: what skipping a byte, a word or a `;` leaves. Assumes nothing.
use mathlib.Core.Path.{◌≡◌, refl, sym, ap, ◌∙◌, subst}
use Rattle.std.proofs.lemmas.List.{take_rest}
use mathlib.Core.Bool.{Bool, true, false, not, cond, ◌||◌}
use mathlib.Core.List.{List, [], ◌∷◌, ◌++◌, append-nil}
use Prim.Native.Nat.{ℕ, suc, ◌+◌, ◌-◌, ◌≤◌, ◌<◌}
use native.Mathlib.Decide.{dec_lt}
use native.Mathlib.Omega.{arith}
use native.Mathlib.Numerals.{add-one}
use lib.Dec.{eqb}
use lib.ListN.{length, get_or, take, drop, take-append-drop, drop_of_length-le, length-drop}
use lib.Seq.{drop-cons, get_or-take, get_or-drop, length-take-le}
use borrow.Author.Tests.{ne_eqb, not-true}
use Rattle.words.specs.declared.Place.{Place}
use Rattle.words.specs.declared.Place.TheVariants.{Inside, Start, Comment}
use Rattle.words.specs.Bytes.{is_blank, is_plain, begins, is_kept, keep, place_after, next_place, uncommented}
use Rattle.words.specs.Tokens.{Mark, word, stop, Scan, ended, shown, put, scan, marks_of, marks_at}
use Rattle.words.specs.Answers.{Skipped, WordEnd}
use Rattle.words.proofs.ByteLaws.{clash, plain-blank, plain-stop, not-blank-after, begins-false, begins-true}

-- ---- one byte

unc-cons : (p : Place) (b : ℕ) (bs : List ℕ) → uncommented p (b ∷ bs) ≡ keep (is_kept p b) b (uncommented (next_place p b) bs)
unfolding uncommented
unc-cons p b bs = refl

scan-cons : (b : ℕ) (bs : List ℕ) → scan (b ∷ bs) ≡ put (is_blank b) (eqb b 59) b (scan bs)
unfolding scan
scan-cons b bs = refl

marks-blank : (b : ℕ) (bs : List ℕ) → is_blank b ≡ true → marks_of (b ∷ bs) ≡ marks_of bs
marks-blank b bs h = ap shown (scan-cons b bs) ∙ ap (λ (t : Bool). shown (put t (eqb b 59) b (scan bs))) h

pub marks-skip : (p : Place) (b : ℕ) (bs : List ℕ) → begins p b ≡ false → marks_at p (b ∷ bs) ≡ marks_at (next_place p b) bs
marks-skip p b bs e = ap marks_of (unc-cons p b bs) ∙ begins-false p b e
    (λ i. ap (λ (k : Bool). marks_of (keep k b (uncommented (next_place p b) bs))) i)
    (λ i h. ap (λ (k : Bool). marks_of (keep k b (uncommented (next_place p b) bs))) i ∙ marks-blank b (uncommented (next_place p b) bs) h)

-- where a byte is kept, the place counts no more
kept-inside : (p : Place) (b : ℕ) (bs : List ℕ) → is_kept p b ≡ true → uncommented p (b ∷ bs) ≡ uncommented Inside (b ∷ bs)
kept-inside Inside b bs h = refl
kept-inside Start b bs h = unc-cons Start b bs ∙ ap (λ (t : Bool). keep (not t) b (uncommented (cond t Comment (place_after b)) bs)) (not-true (eqb b 42) h) ∙ sym (unc-cons Inside b bs)
kept-inside Comment b bs h = clash h

-- ---- a place of a text

module _ (text : List ℕ) (p : Place) (i : ℕ) where
  pub skip_step : i < length text → begins p (get_or text i 0) ≡ false → marks_at p (drop i text) ≡ marks_at (next_place p (get_or text i 0)) (drop (i + 1) text)
  skip_step h e =
      ap (marks_at p) (drop-cons text i 0 h) ∙ marks-skip p (get_or text i 0) (drop (suc i) text) e
      ∙ ap (λ (k : ℕ). marks_at (next_place p (get_or text i 0)) (drop k text)) (sym (add-one i))

  pub skip_stop : i < length text → begins p (get_or text i 0) ≡ true → marks_at p (drop i text) ≡ marks_at Inside (drop i text)
  skip_stop h e =
      ap (marks_at p) (drop-cons text i 0 h) ∙ ap marks_of (kept-inside p (get_or text i 0) (drop (suc i) text) (begins-true p (get_or text i 0) e).0)
      ∙ sym (ap (marks_at Inside) (drop-cons text i 0 h))

  pub skip-end : length text ≤ i → marks_at p (drop i text) ≡ marks_at Inside (drop i text)
  unfolding uncommented
  skip-end h = ap (marks_at p) (drop_of_length-le text h) ∙ sym (ap (marks_at Inside) (drop_of_length-le text h))

-- past the end
pub skip-past : (text : List ℕ) (p : Place) (i : ℕ) → length text ≤ i → marks_at p (drop i text) ≡ marks_at Inside (drop (length text) text)
skip-past text p i h =
    let e : drop i text ≡ drop (length text) text = drop_of_length-le text h ∙ sym (drop_of_length-le text (omega arith)) in
    skip-end text p i h ∙ ap (marks_at Inside) e

-- what is left of a text after i bytes that hold no token
pub skipped-at : (text : List ℕ) (p : Place) (i : ℕ) → marks_at p text ≡ marks_at Inside (drop i text) → (i < length text → is_blank (get_or text i 0) ≡ false)
    → Skipped text p (take (length text - i) (drop i text))
skipped-at text p i e f =
    let all : take (length text - i) (drop i text) ≡ drop i text = take_rest text i in
    subst (Skipped text p) (sym all) (record {
      few = omega (arith, length-drop i text);
      same = e;
      found = λ h.
          let z : i + 0 ≡ i = omega arith in
          ap is_blank (get_or-drop i text 0 0 ∙ ap (λ (k : ℕ). get_or text k 0) z) ∙ f (omega (arith, length-drop i text));
    })

pub none_end : (text : List ℕ) → length text ≤ 0 → marks_at Inside text ≡ []
unfolding uncommented scan
none_end [] h = refl
none_end (b ∷ bs) h = absurd (omega arith)

-- ---- `;`

pub stop-marks : (text : List ℕ) → 0 < length text → get_or text 0 0 ≡ 59 → marks_at Inside text ≡ stop ∷ marks_at Inside (drop 1 text)
unfolding uncommented scan
stop-marks [] h e = absurd (omega arith)
stop-marks (b ∷ bs) h e = ap (λ (c : ℕ). marks_at Inside (c ∷ bs)) e

-- ---- words

scan_at : List ℕ → Scan
scan_at bs = scan (uncommented Inside bs)

plain-scan : (b : ℕ) (bs : List ℕ) → is_plain b ≡ true → scan_at (b ∷ bs) ≡ record { begun = b ∷ (scan_at bs).begun; marks = (scan_at bs).marks }
unfolding scan_at
plain-scan b bs h =
    ap scan (unc-cons Inside b bs ∙ ap (λ (p : Place). b ∷ uncommented p bs) (not-blank-after b (plain-blank b h)))
    ∙ scan-cons b (uncommented Inside bs)
    ∙ ap (λ (t : Bool). put t (eqb b 59) b (scan (uncommented Inside bs))) (plain-blank b h)
    ∙ ap (λ (t : Bool). put false t b (scan (uncommented Inside bs))) (plain-stop b h)

-- plain bytes in front are the front of the word that the text begins with
word-run : (w rest : List ℕ) → ((k : ℕ) → k < length w → is_plain (get_or w k 0) ≡ true) → scan_at (w ++ rest) ≡ record { begun = w ++ (scan_at rest).begun; marks = (scan_at rest).marks }
word-run [] rest h = refl
word-run (b ∷ w) rest h =
    plain-scan b (w ++ rest) (h 0 (omega arith))
    ∙ ap (λ (s : Scan). record { begun = b ∷ s.begun; marks = s.marks }) (word-run w rest (λ k l. h (suc k) (omega arith)))

-- a text that is at its end, or goes on with a byte that is no part of a word, begins with no word
no_word : (b : ℕ) (bs : List ℕ) → is_plain b ≡ false → (scan_at (b ∷ bs)).begun ≡ []
unfolding scan_at
no_word b bs h = ap (λ (s : Scan). s.begun) (ap scan (unc-cons Inside b bs) ∙ scan-cons b (uncommented (place_after b) bs)) ∙ by (is_blank b) (eqb b 59) refl refl h
  where
    by : (t u : Bool) → is_blank b ≡ t → eqb b 59 ≡ u → is_plain b ≡ false → (put t u b (scan (uncommented (place_after b) bs))).begun ≡ []
    by true u e f h = refl
    by false true e f h = refl
    by false false e f h = clash (sym h ∙ ap (λ (t : Bool). not (t || eqb b 59)) e ∙ ap not f)

rest-word : (text : List ℕ) (r : ℕ) → (r < length text → is_plain (get_or text r 0) ≡ false) → r ≤ length text → (scan_at (drop r text)).begun ≡ []
unfolding scan_at uncommented scan
rest-word text r f h = by (dec_lt r (length text))
  where
    ended-text : length text ≤ r → (scan_at (drop r text)).begun ≡ []
    ended-text l = ap (λ (bs : List ℕ). (scan_at bs).begun) (drop_of_length-le text l)

    by : Dec (r < length text) → (scan_at (drop r text)).begun ≡ []
    by (yes l) = ap (λ (bs : List ℕ). (scan_at bs).begun) (drop-cons text r 0 l) ∙ no_word (get_or text r 0) (drop (suc r) text) (f l)
    by (no n) = ended-text (omega arith)

one_word : (w : List ℕ) (ms : List Mark) → 1 ≤ length w → ended (w ++ []) ms ≡ word w ∷ ms
one_word [] ms h = absurd (omega arith)
one_word (b ∷ w) ms h = ap (λ (v : List ℕ). word v ∷ ms) (append-nil (b ∷ w))

-- the same, as what is left stands in a slice
pub stop-next : (text : List ℕ) → 0 < length text → get_or text 0 0 ≡ 59
    → (marks_at Inside text ≡ stop ∷ marks_at Inside (take (length text - 1) (drop 1 text))) × (length (take (length text - 1) (drop 1 text)) < length text)
stop-next text h e =
    let all : take (length text - 1) (drop 1 text) ≡ drop 1 text = take_rest text 1 in
    let n : length (take (length text - 1) (drop 1 text)) ≡ length (drop 1 text) = ap length all in (
      stop-marks text h e ∙ ap (λ (bs : List ℕ). stop ∷ marks_at Inside bs) (sym all),
      omega (arith, length-drop 1 text),
    )

module _ (text : List ℕ) (r : ℕ) (e : WordEnd text r) where
  size : length (take r text) ≡ r
  size = length-take-le r text e.high

  all-plain : (k : ℕ) → k < length (take r text) → is_plain (get_or (take r text) k 0) ≡ true
  all-plain k h =
      let less : k < r = omega (arith, size) in
      ap is_plain (get_or-take r text k 0 less) ∙ e.plain k less

  pub word-marks : 0 < r → marks_at Inside text ≡ word (take r text) ∷ marks_at Inside (drop r text)
  unfolding scan_at
  word-marks h =
      ap (marks_at Inside) (sym (take-append-drop r text)) ∙ ap shown (word-run (take r text) (drop r text) all-plain)
      ∙ ap (λ (w : List ℕ). ended (take r text ++ w) (scan_at (drop r text)).marks) none
      ∙ one_word (take r text) (scan_at (drop r text)).marks (omega (arith, size))
      ∙ ap (λ (w : List ℕ). word (take r text) ∷ ended w (scan_at (drop r text)).marks) (sym none)
    where
      none : (scan_at (drop r text)).begun ≡ []
      none = rest-word text r e.found e.high

  -- a byte that is neither blank nor `;` is part of the word
  pub word_more : 0 < length text → is_blank (get_or text 0 0) ≡ false → (get_or text 0 0 ≡ 59 → ⊥) → 0 < r
  word_more l b n = by (dec_lt 0 r)
    where
      plain : is_plain (get_or text 0 0) ≡ true
      plain = ap (λ (t : Bool). not (t || eqb (get_or text 0 0) 59)) b ∙ ap not (ne_eqb (get_or text 0 0) 59 n)

      by : Dec (0 < r) → 0 < r
      by (yes h) = h
      by (no h) =
          let same : r ≡ 0 = omega arith in
          clash (sym (e.found (omega arith)) ∙ ap (λ (k : ℕ). is_plain (get_or text k 0)) same ∙ plain)

  -- the same, as what is left stands in a slice
  pub word-next : 0 < length text → is_blank (get_or text 0 0) ≡ false → (get_or text 0 0 ≡ 59 → ⊥)
      → (marks_at Inside text ≡ word (take r text) ∷ marks_at Inside (take (length text - r) (drop r text))) × (length (take (length text - r) (drop r text)) < length text)
  word-next l b n =
      let all : take (length text - r) (drop r text) ≡ drop r text = take_rest text r in
      let m : length (take (length text - r) (drop r text)) ≡ length (drop r text) = ap length all in (
        word-marks (word_more l b n) ∙ ap (λ (bs : List ℕ). word (take r text) ∷ marks_at Inside bs) (sym all),
        omega (arith, length-drop r text, word_more l b n),
      )
