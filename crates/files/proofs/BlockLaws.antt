-- Blocks of a file as parts of it.
use mathlib.Core.Path.{◌≡◌, refl, sym, ap, ap₂, ◌∙◌}
use mathlib.Core.List.{List, [], ◌∷◌, ◌++◌, append_assoc}
use Prim.Native.Nat.{ℕ, suc, ◌+◌, ◌-◌, ◌*◌, ◌≤◌, ◌<◌}
use native.Mathlib.Omega.{arith}
use lib.ListN.{length, get_or, set, take, drop, length-drop}
use lib.Seq.{length-take-le, drop-cons, set_at, take_at, drop_at, drop-drop}
use lib.IntN.{ℤ}
use Rattle.points.specs.Lists.{values_put}
use Rattle.instance.specs.Lists.{tabulate}
use Rattle.instance.proofs.ListLaws.{tabulate-length, tabulate-snoc, tabulate-append}
use Rattle.files.specs.Layout.{block_at, value_in, values_of, values_in}

-- The part of a file from `at` up to `end`, where that is block b.
pub part-block : (f : List ℕ) (b at end : ℕ) → at ≡ b * 512 → end ≡ at + 512 → take (end - at) (drop at f) ≡ block_at f b
part-block f b at end e h =
    let d : end - at ≡ 512 = omega arith in
    ap (λ (n : ℕ). take n (drop at f)) d ∙ ap (λ (n : ℕ). take 512 (drop n f)) e

pub block-length : (f : List ℕ) (b : ℕ) → (b + 1) * 512 ≤ length f → length (block_at f b) ≡ 512
block-length f b h = length-take-le 512 (drop (b * 512) f) (omega (arith, length-drop (b * 512) f))

pub part_length : (f : List ℕ) (b at end : ℕ) → at ≡ b * 512 → end ≡ at + 512 → end ≤ length f → length (take (end - at) (drop at f)) ≡ 512
part_length f b at end e h l = ap length (part-block f b at end e h) ∙ block-length f b (omega arith)

-- ---- a run that is filled from the front, number after number
module _ {A : Type 0} (g : ℕ → A) (found : List A) where
  pub fill-first : found ≡ tabulate g 0 0 ++ drop 0 found
  unfolding tabulate
  fill-first = refl

  pub fill-next : (now : List A) (i : ℕ) → i < length found → now ≡ tabulate g 0 i ++ drop i found → set now i (g i) ≡ tabulate g 0 (i + 1) ++ drop (i + 1) found
  fill-next now i h e =
      let t = tabulate g 0 i in
      let d : A = g i in
      let z : 0 + i ≡ i = omega arith in
      let s : suc i ≡ i + 1 = omega arith in
      ap (λ (l : List A). set l i (g i)) (e ∙ ap (λ (l : List A). t ++ l) (drop-cons found i d h))
      ∙ (set_at t (get_or found i d) (drop (suc i) found) (g i) i (tabulate-length g 0 i)
      ∙ (sym (append_assoc t (g i ∷ []) (drop (suc i) found))
      ∙ (ap (λ (l : List A). l ++ drop (suc i) found) (sym (tabulate-snoc g 0 i ∙ ap (λ (k : ℕ). t ++ (g k ∷ [])) z)) ∙ ap (λ (k : ℕ). tabulate g 0 (i + 1) ++ drop k found) s)))

-- ---- a run that is filled from the front, point after point
pub four-first : {A : Type 0} (g : ℕ → A) (found : List A) → found ≡ tabulate g 0 (0 * 4) ++ drop (0 * 4) found
unfolding tabulate
four-first g found = refl

tabulate-four : {A : Type 0} (g : ℕ → A) (a : ℕ) → tabulate g (0 + a) 4 ≡ g a ∷ (g (a + 1) ∷ (g (a + 2) ∷ (g (a + 3) ∷ [])))
unfolding tabulate
tabulate-four {A} g a =
    let e : 0 + a ≡ a = omega arith in
    let e1 : suc (0 + a) ≡ a + 1 = omega arith in
    let e2 : suc (suc (0 + a)) ≡ a + 2 = omega arith in
    let e3 : suc (suc (suc (0 + a))) ≡ a + 3 = omega arith in
    ap₂ ◌∷◌ (ap g e) (ap₂ ◌∷◌ (ap g e1) (ap₂ ◌∷◌ (ap g e2) (ap (λ (x : A). x ∷ []) (ap g e3))))

pub fill-four : (f : List ℕ) (found now : List ℤ) (k : ℕ) → k * 4 + 4 ≤ length found → now ≡ values_in f k ++ drop (k * 4) found
    → values_put now k (values_of f k) ≡ values_in f (k + 1) ++ drop ((k + 1) * 4) found
fill-four f found now k h e =
    let t = values_in f k in
    let long : length t ≡ k * 4 = tabulate-length (value_in f) 0 (k * 4) in
    let front : take (k * 4) now ≡ t = ap (take (k * 4)) e ∙ take_at t (drop (k * 4) found) (k * 4) long in
    let back : drop (k * 4 + 4) now ≡ drop ((k + 1) * 4) found =
    sym (drop-drop 4 (k * 4) now) ∙ (ap (drop 4) (ap (drop (k * 4)) e ∙ drop_at t (drop (k * 4) found) (k * 4) long) ∙ (drop-drop 4 (k * 4) found ∙ ap (λ (n : ℕ). drop n found) (omega arith)))
    in
    let whole : t ++ values_of f k ≡ values_in f (k + 1) =
    ap (λ (l : List ℤ). t ++ l) (sym (tabulate-four (value_in f) (k * 4)))
    ∙ (sym (tabulate-append (value_in f) 0 (k * 4) 4) ∙ let n : k * 4 + 4 ≡ (k + 1) * 4 = omega arith in ap (λ (m : ℕ). tabulate (value_in f) 0 m) n)
    in
    ap₂ (λ (x y : List ℤ). x ++ (values_of f k ++ y)) front back
    ∙ (sym (append_assoc t (values_of f k) (drop ((k + 1) * 4) found)) ∙ ap (λ (l : List ℤ). l ++ drop ((k + 1) * 4) found) whole)
