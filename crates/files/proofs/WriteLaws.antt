-- What writing leaves, block after block: the blocks written stand in their places and make up the file of the list.
use mathlib.Core.Path.{◌≡◌, refl, sym, ap, subst, ◌∙◌}
use mathlib.Core.List.{List, ◌++◌}
use Prim.Native.Nat.{ℕ, zero, suc, ◌+◌, ◌-◌, ◌*◌, ◌/◌, ◌%◌, ◌≤◌, ◌<◌}
use native.Mathlib.Decide.{dec_lt}
use native.Mathlib.Omega.{arith}
use borrow.Rule.Slice.PartMut.{put_mid, same_len_mid, take_put, drop_put}
use lib.IntN.{ℤ, pos}
use lib.ListN.{length, get_or, take, drop, length-drop, length-append}
use lib.Seq.{length-take-le, take_at, drop_at, drop-drop, get_or-take, get_or-drop, ext_get_or}
use Rattle.points.specs.Lists.{Proper, point_at}
use Rattle.points.proofs.CompareLaws.{value-of}
use Rattle.blocks.specs.Fields.{byte_at, signed_of, bits_of}
use Rattle.blocks.proofs.ByteLaws.{signed-bits}
use Rattle.files.specs.Layout.{block_at, blocks_for, count_in, value_in, PointsFit, BlockFits, BlockChecked, FileOf}
use Rattle.files.specs.Structs.{HeadOf, PointIn, PointsOf}
use Rattle.files.specs.Put.{BlocksPut}
use Rattle.files.specs.Written.{bytes_for, WrittenAll}
use Rattle.files.proofs.BlockLaws.{block-length}

-- ---- blocks of two files that agree
pub block-byte : (f : List ℕ) (b i : ℕ) → i < 512 → byte_at (block_at f b) i ≡ byte_at f (b * 512 + i)
block-byte f b i h = get_or-take 512 (drop (b * 512) f) i 0 h ∙ get_or-drop (b * 512) f i 0

pub block_same : (f g : List ℕ) (b : ℕ) → (b + 1) * 512 ≤ length f → (b + 1) * 512 ≤ length g → ((i : ℕ) → i < 512 → byte_at g (b * 512 + i) ≡ byte_at f (b * 512 + i)) → block_at g b ≡ block_at f b
block_same f g b h l same =
    ext_get_or 0 (block_at g b) (block_at f b) (block-length g b l ∙ sym (block-length f b h))
    (λ i k. let j : i < 512 = omega (arith, block-length g b l) in block-byte g b i j ∙ (same i j ∙ sym (block-byte f b i j)))

-- ---- a part of 512 bytes put back
module _ (f ys : List ℕ) (b : ℕ) (room : (b + 1) * 512 ≤ length f) (whole : length ys ≡ 512) where
  abbrev after : List ℕ
  after = put_mid (b * 512) (b * 512 + 512 - b * 512) f ys

  size : b * 512 + 512 - b * 512 ≡ 512
  size = omega arith

  pub put-length : length after ≡ length f
  put-length =
      same_len_mid (b * 512) (b * 512 + 512 - b * 512) f ys
      (whole ∙ sym (length-take-le (b * 512 + 512 - b * 512) (drop (b * 512) f) (omega (arith, length-drop (b * 512) f)) ∙ size))

  pub put-block : block_at after b ≡ ys
  put-block =
      ap (take 512) (drop_at (take (b * 512) f) (ys ++ drop (b * 512 + 512 - b * 512) (drop (b * 512) f)) (b * 512) (length-take-le (b * 512) f (omega arith)))
      ∙ take_at ys (drop (b * 512 + 512 - b * 512) (drop (b * 512) f)) 512 whole

  pub put-below : (j : ℕ) → j < b → block_at after j ≡ block_at f j
  put-below j h =
      block_same f after j (omega arith) (omega (arith, put-length))
      (λ i l.
      let m : j * 512 + i < b * 512 = omega arith in
      sym (get_or-take (b * 512) after (j * 512 + i) 0 m)
      ∙ (ap (λ (x : List ℕ). get_or x (j * 512 + i) 0) (take_put (b * 512) (b * 512 + 512 - b * 512) f ys (omega arith)) ∙ get_or-take (b * 512) f (j * 512 + i) 0 m))

  pub put_rest : drop ((b + 1) * 512) after ≡ drop ((b + 1) * 512) f
  put_rest =
      let e : (b + 1) * 512 ≡ b * 512 + 512 = omega arith in
      ap (λ (n : ℕ). drop n after) e
      ∙ (drop_put (b * 512) (b * 512 + 512) f ys (omega arith) (omega arith) (whole ∙ sym size) ∙ ap (λ (n : ℕ). drop n f) (sym e))

-- ---- BlocksPut
module _ (f : List ℕ) (points : ℕ) (vs : List ℤ) (ms : List ℕ) where
  pub blocks_more : (g ys : List ℕ) (b : ℕ) → 1 ≤ b → (b + 1) * 512 ≤ length f → length ys ≡ 512 → BlocksPut f points vs ms b g → PointsOf b ((b - 1) * 12) (count_in points b) vs ms ys
      → BlocksPut f points vs ms (b + 1) (put_mid (b * 512) (b * 512 + 512 - b * 512) g ys)
  blocks_more g ys b some room whole a p = record {
    whole = put-length g ys b fits whole ∙ a.whole;
    written = written;
    head = put-below g ys b fits whole 0 (omega arith) ∙ a.head;
    rest =
        put_rest g ys b fits whole
        ∙ (ap (λ (n : ℕ). drop n g) up ∙ (sym (drop-drop 512 (b * 512) g) ∙ (ap (drop 512) a.rest ∙ (drop-drop 512 (b * 512) f ∙ ap (λ (n : ℕ). drop n f) (sym up)))));
  }
    where
      fits : (b + 1) * 512 ≤ length g
      fits = omega (arith, a.whole)

      up : (b + 1) * 512 ≡ b * 512 + 512
      up = omega arith

      written : (t : ℕ) → 1 ≤ t → t < b + 1 → PointsOf t ((t - 1) * 12) (count_in points t) vs ms (block_at (put_mid (b * 512) (b * 512 + 512 - b * 512) g ys) t)
      written t h l = by (dec_lt t b)
        where
          by : Dec (t < b) → PointsOf t ((t - 1) * 12) (count_in points t) vs ms (block_at (put_mid (b * 512) (b * 512 + 512 - b * 512) g ys) t)
          by (yes k) = subst (PointsOf t ((t - 1) * 12) (count_in points t) vs ms) (sym (put-below g ys b fits whole t k)) (a.written t h k)
          by (no k) =
              let e : b ≡ t = omega arith in
              subst (λ (s : ℕ). PointsOf s ((s - 1) * 12) (count_in points s) vs ms (block_at (put_mid (b * 512) (b * 512 + 512 - b * 512) g ys) s)) e
              (subst (PointsOf b ((b - 1) * 12) (count_in points b) vs ms) (sym (put-block g ys b fits whole)) p)

-- ---- the file of a list
module _ {o n points : ℕ} {vs : List ℤ} {ms : List ℕ} (proper : Proper o n points vs ms) (g : List ℕ) (head : HeadOf o n points (block_at g 0))
    (written : (b : ℕ) → 1 ≤ b → b < blocks_for points → PointsOf b ((b - 1) * 12) (count_in points b) vs ms (block_at g b)) where
  block_of : (k : ℕ) → k < points → PointIn (block_at g (k / 12 + 1)) (k % 12) (point_at vs ms k)
  block_of k h =
      let b = k / 12 + 1 in
      let e : (b - 1) * 12 + k % 12 ≡ k = omega arith in
      subst (λ (t : ℕ). PointIn (block_at g b) (k % 12) (point_at vs ms t)) e ((written b (omega arith) (omega arith)).points (k % 12) (omega arith))

  value-at : (i : ℕ) → i < points * 4 → value_in g i ≡ get_or vs i (pos 0)
  value-at i h =
      let k = i / 4 in
      let e : k * 4 + i % 4 ≡ i = omega arith in
      ap signed_of ((block_of k (omega arith)).values (i % 4) (omega arith) ∙ ap bits_of (value-of vs k (i % 4) (omega arith) ∙ ap (λ (j : ℕ). get_or vs j (pos 0)) e))
      ∙ signed-bits (get_or vs i (pos 0)) (omega (arith, proper.in_range i h))

  laid-at : (b : ℕ) → b < blocks_for points → BlockFits g (blocks_for points) b
  laid-at zero h = head.fits
  laid-at (suc b) h =
      subst (λ (p : ℕ). PointsFit (block_at g (suc b)) (suc b) (count_in p (suc b))) (sym head.has_points) (written (suc b) (omega arith) h).fits

  checked-at : (b : ℕ) → b < blocks_for points → BlockChecked g b
  checked-at zero h = head.checked
  checked-at (suc b) h = (written (suc b) (omega arith) h).checked

  pub file-of : FileOf o n points vs ms g
  file-of = record {
    checked = checked-at;
    laid = laid-at;
    head_objectives = head.has_objectives;
    head_variables = head.has_variables;
    head_points = head.has_points;
    values = value-at;
    models = λ k h. (block_of k h).model;
  }

-- ---- the answer
pub written_all : {o n points : ℕ} {vs : List ℤ} {ms : List ℕ} (found head left : List ℕ) (value : ℕ) → Proper o n points vs ms → bytes_for points ≤ length found → length head ≡ 512
    → HeadOf o n points head → BlocksPut (head ++ drop 512 found) points vs ms (blocks_for points) left → value ≡ bytes_for points → WrittenAll o n points vs ms found left 0 value
written_all {o} {n} {points} {vs} {ms} found head left value proper room whole h b e =
    let first : block_at left 0 ≡ head = b.head ∙ take_at head (drop 512 found) 512 whole in
    let m = (blocks_for points - 1) * 512 in
    let s : bytes_for points ≡ 512 + m = omega arith in
    record {
      numbered = refl;
      proper = proper;
      room = room;
      count = e;
      whole = b.whole ∙ omega (arith, length-append head (drop 512 found), length-drop 512 found);
      file = file-of proper left (subst (HeadOf o n points) (sym first) h) b.written;
      rest =
          b.rest
          ∙ (ap (λ (k : ℕ). drop k (head ++ drop 512 found)) s
          ∙ (sym (drop-drop m 512 (head ++ drop 512 found))
          ∙ (ap (drop m) (drop_at head (drop 512 found) 512 whole) ∙ (drop-drop m 512 found ∙ ap (λ (k : ℕ). drop k found) (sym s)))));
    }
