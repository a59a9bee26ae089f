-- The file of a list is determined: two files of one list have the same bytes.
use mathlib.Core.Path.{◌≡◌, sym, ap, ◌∙◌}
use mathlib.Core.List.{List, ◌∷◌}
use Prim.Native.Nat.{ℕ, ◌+◌, ◌-◌, ◌*◌, ◌/◌, ◌%◌, ◌≤◌, ◌<◌}
use native.Mathlib.Decide.{dec_lt}
use native.Mathlib.Omega.{arith}
use lib.ListN.{length, drop, length-drop}
use lib.Seq.{ext_get_or, get_or-drop}
use Rattle.blocks.specs.Fields.{byte_at, u16_at, u32_at, u64_at}
use Rattle.blocks.specs.Check.{checksum, CheckFits}
use Rattle.blocks.proofs.FieldLaws.{Agree}
use Rattle.blocks.proofs.ByteLaws.{Bytes, number-bytes}
use Rattle.files.specs.Layout.{points_of, objectives_of, variables_of, HeadFits, PointsFit}

-- ---- one block
-- A byte of a field that agrees.
in_field : (a b : List ℕ) (from n i : ℕ) → Agree a from b from n → from ≤ i → i < from + n → byte_at a i ≡ byte_at b i
in_field a b from n i h l m =
    let e : from + (i - from) ≡ i = omega arith in
    ap (byte_at a) (sym e) ∙ (h (i - from) (omega arith) ∙ ap (byte_at b) e)

module _ (a b : List ℕ) (ha : Bytes a) (hb : Bytes b) (la : length a ≡ 512) (lb : length b ≡ 512) where
  -- Blocks whose checks fit and whose bytes agree from the third on are equal.
  pub block-unique : CheckFits a → CheckFits b → ((i : ℕ) → 2 ≤ i → i < 512 → byte_at a i ≡ byte_at b i) → a ≡ b
  block-unique ca cb same =
      let tails : drop 2 a ≡ drop 2 b =
      ext_get_or 0 (drop 2 a) (drop 2 b) (omega (arith, length-drop 2 a, length-drop 2 b))
      (λ i h. get_or-drop 2 a i 0 ∙ (same (2 + i) (omega arith) (omega (arith, length-drop 2 a)) ∙ sym (get_or-drop 2 b i 0)))
      in
      let checks : u16_at a 0 ≡ u16_at b 0 = ca.stored ∙ (ap (λ (l : List ℕ). checksum (0 ∷ (0 ∷ l))) tails ∙ sym cb.stored) in
      ext_get_or 0 a b (la ∙ sym lb) (λ i h. by checks i h (dec_lt i 2))
    where
      by : u16_at a 0 ≡ u16_at b 0 → (i : ℕ) → i < length a → Dec (i < 2) → byte_at a i ≡ byte_at b i
      by e i h (yes l) = in_field a b 0 2 i (number-bytes 2 a b ha hb 0 0 e) (omega arith) (omega arith)
      by e i h (no l) = same i (omega arith) (omega arith)

  -- Heads with the same three numbers.
  pub head-unique : {m n : ℕ} → HeadFits a m → HeadFits b n → CheckFits a → CheckFits b → objectives_of a ≡ objectives_of b → variables_of a ≡ variables_of b → points_of a ≡ points_of b → a ≡ b
  head-unique fa fb ca cb o n p = block-unique ca cb (λ i l h. by i l h (dec_lt i 4) (dec_lt i 8) (dec_lt i 10) (dec_lt i 12) (dec_lt i 14) (dec_lt i 16) (dec_lt i 20))
    where
      f16 : (from i : ℕ) → u16_at a from ≡ u16_at b from → from ≤ i → i < from + 2 → byte_at a i ≡ byte_at b i
      f16 from i e l m = in_field a b from 2 i (number-bytes 2 a b ha hb from from e) l m

      f32 : (from i : ℕ) → u32_at a from ≡ u32_at b from → from ≤ i → i < from + 4 → byte_at a i ≡ byte_at b i
      f32 from i e l m = in_field a b from 4 i (number-bytes 4 a b ha hb from from e) l m

      by : (i : ℕ) → 2 ≤ i → i < 512 → Dec (i < 4) → Dec (i < 8) → Dec (i < 10) → Dec (i < 12) → Dec (i < 14) → Dec (i < 16) → Dec (i < 20) → byte_at a i ≡ byte_at b i
      by i l h (yes q) d2 d3 d4 d5 d6 d7 = f16 2 i (fa.kind ∙ sym fb.kind) l q
      by i l h (no p1) (yes q) d3 d4 d5 d6 d7 = f32 4 i (fa.number ∙ sym fb.number) (omega arith) q
      by i l h (no p1) (no p2) (yes q) d4 d5 d6 d7 = f16 8 i (fa.form ∙ sym fb.form) (omega arith) q
      by i l h (no p1) (no p2) (no p3) (yes q) d5 d6 d7 = f16 10 i o (omega arith) q
      by i l h (no p1) (no p2) (no p3) (no p4) (yes q) d6 d7 = f16 12 i n (omega arith) q
      by i l h (no p1) (no p2) (no p3) (no p4) (no p5) (yes q) d7 = f16 14 i (fa.spare ∙ sym fb.spare) (omega arith) q
      by i l h (no p1) (no p2) (no p3) (no p4) (no p5) (no p6) (yes q) = f32 16 i p (omega arith) q
      by i l h (no p1) (no p2) (no p3) (no p4) (no p5) (no p6) (no p7) = fa.rest i (omega arith) h ∙ sym (fb.rest i (omega arith) h)

  -- Point blocks with the same number and the same numbers in the places of so many points.
  pub points-unique : {m count : ℕ} → count ≤ 12 → PointsFit a m count → PointsFit b m count → CheckFits a → CheckFits b → ((j q : ℕ) → j < count → q < 5 → u64_at a (8 + j * 40 + q * 8) ≡ u64_at b (8 + j * 40 + q * 8)) → a ≡ b
  points-unique {m} {count} few fa fb ca cb same = block-unique ca cb (λ i l h. by i l h (dec_lt i 4) (dec_lt i 8) (dec_lt i (8 + count * 40)))
    where
      by : (i : ℕ) → 2 ≤ i → i < 512 → Dec (i < 4) → Dec (i < 8) → Dec (i < 8 + count * 40) → byte_at a i ≡ byte_at b i
      by i l h (yes q) d2 d3 = in_field a b 2 2 i (number-bytes 2 a b ha hb 2 2 (fa.kind ∙ sym fb.kind)) l q
      by i l h (no p1) (yes q) d3 = in_field a b 4 4 i (number-bytes 4 a b ha hb 4 4 (fa.number ∙ sym fb.number)) (omega arith) q
      by i l h (no p1) (no p2) (yes r) =
          let j = (i - 8) / 40 in
          let q = (i - 8) % 40 / 8 in
          let from = 8 + j * 40 + q * 8 in
          in_field a b from 8 i (number-bytes 8 a b ha hb from from (same j q (omega arith) (omega arith))) (omega arith) (omega arith)
      by i l h (no p1) (no p2) (no p3) = fa.rest i (omega arith) h ∙ sym (fb.rest i (omega arith) h)
