-- The Internet checksum: adding words one by one with the carry folded in gives the folded sum of all words.
use mathlib.Core.Path.{◌≡◌, refl, sym, ap, subst, ◌∙◌}
use mathlib.Core.List.{List, [], ◌∷◌}
use Prim.Native.Nat.{ℕ, suc, ◌+◌, ◌-◌, ◌*◌, ◌/◌, ◌%◌, ◌≤◌, ◌<◌}
use native.Mathlib.Decide.{dec_lt}
use native.Mathlib.Omega.{arith}
use lib.ListN.{length, get_or, set, take, drop, length-take, length-drop}
use lib.Seq.{drop-cons, get_or-drop, get_or-take, drop-length, drop-set-lt}
use Rattle.blocks.specs.Fields.{byte_at, u16_at, number_at, put}
use Rattle.blocks.specs.Check.{word_sum, fold, ones_sum, checksum, check_of}
use Rattle.std.specs.Simd.{first_chunks}
use Rattle.instance.proofs.ChunkLaws.{length-chunks, chunk-at}
use Rattle.blocks.proofs.FieldLaws.{number-agree}
use Rattle.blocks.proofs.ByteLaws.{Bytes}

-- ---- the worked example of RFC 1071, section 3: 00 01 f2 03 f4 f5 f6 f7 has the sum ddf2, so the checksum 220d
abbrev pub rfc_bytes : List ℕ
rfc_bytes = 0 ∷ (1 ∷ (242 ∷ (3 ∷ (244 ∷ (245 ∷ (246 ∷ (247 ∷ [])))))))

pub rfc-sum : ones_sum (word_sum rfc_bytes) ≡ 56818
unfolding word_sum
rfc-sum = refl

pub rfc-checksum : checksum rfc_bytes ≡ 8717
unfolding word_sum
rfc-checksum = refl

-- ---- fold
-- A carry is worth one at the low end: where the low bits are not all ones the first fold is the same, else the second.
wrap : (x : ℕ) → x < 134217728 → ones_sum (x + 65536) ≡ ones_sum (x + 1)
wrap x l = by (dec_lt (x % 65536) 65535)
  where
    by : Dec (x % 65536 < 65535) → ones_sum (x + 65536) ≡ ones_sum (x + 1)
    by (yes h) =
        let a : (x + 65536) % 65536 ≡ x % 65536 = omega arith in
        let b : (x + 65536) / 65536 ≡ x / 65536 + 1 = omega arith in
        let c : (x + 1) % 65536 ≡ x % 65536 + 1 = omega arith in
        let d : (x + 1) / 65536 ≡ x / 65536 = omega arith in
        let e : fold (x + 65536) ≡ fold (x + 1) = omega arith in
        ap fold e
    by (no h) =
        let q = x / 65536 in
        let e : x ≡ q * 65536 + 65535 = omega arith in
        let f : fold (x + 65536) ≡ 65536 + q = omega arith in
        let g : fold (x + 1) ≡ q + 1 = omega arith in
        let m : q < 65535 = omega arith in
        ap fold f ∙ (low q m ∙ sym (ap fold g))
      where
        low : (q : ℕ) → q < 65535 → fold (65536 + q) ≡ fold (q + 1)
        low q m = omega arith

-- Folding a part of a sum changes nothing.
pub fold-part : (a r : ℕ) → a < 131072 → r < 67108864 → ones_sum (a + r) ≡ ones_sum (fold a + r)
fold-part a r h l = by (dec_lt a 65536)
  where
    by : Dec (a < 65536) → ones_sum (a + r) ≡ ones_sum (fold a + r)
    by (yes s) = let e : a + r ≡ fold a + r = omega arith in ap ones_sum e
    by (no s) =
        let e : a + r ≡ (a - 65536 + r) + 65536 = omega arith in
        let f : (a - 65536 + r) + 1 ≡ fold a + r = omega arith in
        ap ones_sum e ∙ (wrap (a - 65536 + r) (omega arith) ∙ ap ones_sum f)

pub ones_small : (s : ℕ) → s < 4294967296 → ones_sum s < 65536
ones_small s h = omega arith

pub ones-same : (s : ℕ) → s < 65536 → ones_sum s ≡ s
ones-same s h = omega arith

-- ---- word_sum
pub sum_bound : (bs : List ℕ) → Bytes bs → word_sum bs ≤ length bs * 65536
unfolding word_sum
sum_bound [] h = omega arith
sum_bound (a ∷ []) h = omega (arith, h 0)
sum_bound (a ∷ (b ∷ bs)) h = omega (arith, h 0, h 1, sum_bound bs (λ i. h (suc (suc i))))

module _ (bs : List ℕ) where
  drop-bytes : Bytes bs → (i : ℕ) → Bytes (drop i bs)
  drop-bytes h i j = subst (λ (x : ℕ). x < 256) (sym (get_or-drop i bs j 0)) (h (i + j))

  pub rest-small : Bytes bs → length bs ≡ 512 → (i : ℕ) → word_sum (drop i bs) < 67108864
  rest-small h e i = omega (arith, sum_bound (drop i bs) (drop-bytes h i), length-drop i bs)

  word-bytes : (i : ℕ) → u16_at bs i ≡ byte_at bs i * 256 + byte_at bs (i + 1)
  unfolding number_at
  word-bytes i =
      let e : i + 0 ≡ i = omega arith in
      let f : 0 + byte_at bs (i + 0) ≡ byte_at bs i = omega (arith, ap (byte_at bs) e) in
      ap (λ (b : ℕ). b * 256 + byte_at bs (i + 1)) f

  pub sum_step : (i : ℕ) → i + 2 ≤ length bs → word_sum (drop i bs) ≡ u16_at bs i + word_sum (drop (i + 2) bs)
  unfolding word_sum
  sum_step i h =
      let e : suc (suc i) ≡ i + 2 = omega arith in
      let f : suc i ≡ i + 1 = omega arith in
      ap word_sum
      (drop-cons bs i 0 (omega arith)
      ∙ ap (λ (l : List ℕ). byte_at bs i ∷ l)
      (drop-cons bs (suc i) 0 (omega arith)
      ∙ (ap (λ (k : ℕ). byte_at bs k ∷ drop (suc (suc i)) bs) f ∙ ap (λ (k : ℕ). byte_at bs (i + 1) ∷ drop k bs) e)))
      ∙ ap (λ (w : ℕ). w + word_sum (drop (i + 2) bs)) (sym (word-bytes i))

  -- The words after the first, as the code goes over them.
  words-long : (words : List (List ℕ)) → words ≡ first_chunks 2 (length bs / 2) bs → length bs ≡ 512 → length words ≡ 256
  words-long words e l = ap length e ∙ (length-chunks 2 (length bs / 2) bs ∙ omega arith)

  pub words-count : (words : List (List ℕ)) → words ≡ first_chunks 2 (length bs / 2) bs → length bs ≡ 512
      → length (take (length words - 1) (drop 1 words)) ≡ 255
  words-count words e l = omega (arith, length-take (length words - 1) (drop 1 words), length-drop 1 words, words-long words e l)

  pub word-at : (words : List (List ℕ)) → words ≡ first_chunks 2 (length bs / 2) bs → length bs ≡ 512 → (i : ℕ) → i < 255
      → number_at 2 (get_or (take (length words - 1) (drop 1 words)) i []) 0 ≡ u16_at bs (2 + i * 2)
  word-at words e l i h =
      let k = (1 + i) * 2 in
      let f : k ≡ 2 + i * 2 = omega arith in
      ap (λ (w : List ℕ). number_at 2 w 0)
      (get_or-take (length words - 1) (drop 1 words) i [] (omega (arith, words-long words e l))
      ∙ (get_or-drop 1 words i [] ∙ (ap (λ (w : List (List ℕ)). get_or w (1 + i) []) e ∙ chunk-at 2 (length bs / 2) bs (1 + i) (omega arith))))
      ∙ (number-agree 2 (take 2 (drop k bs)) 0 bs k (λ j m. get_or-take 2 (drop k bs) (0 + j) 0 (omega arith) ∙ (get_or-drop k bs (0 + j) 0 ∙ ap (λ (t : ℕ). byte_at bs (k + t)) (omega arith)))
      ∙ ap (λ (t : ℕ). u16_at bs t) f)

  -- A turn of the loop that adds a word.
  pub check-step : (i s w : ℕ) → Bytes bs → length bs ≡ 512 → i + 2 ≤ 512 → s < 65536 → w < 65536 → w ≡ u16_at bs i
      → ones_sum (fold (s + w) + word_sum (drop (i + 2) bs)) ≡ ones_sum (s + word_sum (drop i bs))
  check-step i s w h e l p q v =
      sym (fold-part (s + w) (word_sum (drop (i + 2) bs)) (omega arith) (rest-small h e (i + 2)))
      ∙ ap ones_sum (omega (arith, sum_step i (omega arith)))

  pub check-start : check_of bs ≡ 65535 - ones_sum (word_sum (drop 2 bs))
  unfolding word_sum
  check-start = ap (λ (s : ℕ). 65535 - ones_sum s) (omega arith)

  pub check-end : (i s : ℕ) → length bs ≡ 512 → i ≡ 512 → s < 65536 → ones_sum (s + word_sum (drop i bs)) ≡ s
  unfolding word_sum
  check-end i s e f h =
      ap (λ (k : ℕ). ones_sum (s + word_sum (drop k bs))) (f ∙ sym e)
      ∙ (ap (λ (l : List ℕ). ones_sum (s + word_sum l)) (drop-length bs) ∙ (ap ones_sum (omega arith) ∙ ones-same s h))

  -- The check looks at no byte before the third, so storing it does not change it.
  pub check-put : (x : ℕ) → check_of (put 2 bs 0 x) ≡ check_of bs
  unfolding put
  check-put x =
      ap (λ (l : List ℕ). checksum (0 ∷ (0 ∷ l)))
      (drop-set-lt 2 (set bs 1 (x % 256)) 0 (x / 256 % 256) (omega arith) ∙ drop-set-lt 2 bs 1 (x % 256) (omega arith))

pub check-small : (bs : List ℕ) → check_of bs < 65536
check-small bs = omega arith
