-- What the stores of a head come to: a block that was begun, a block that was sealed, a head.
use mathlib.Core.Path.{◌≡◌, sym, ap, ◌∙◌}
use mathlib.Core.List.{List}
use Prim.Native.Nat.{ℕ, ◌+◌, ◌≤◌, ◌<◌}
use native.Mathlib.Omega.{arith}
use lib.ListN.{length, replicate, length-replicate}
use Rattle.blocks.specs.Fields.{byte_at, u16_at, u32_at, number_at, put}
use Rattle.blocks.specs.Check.{check_of, CheckFits}
use Rattle.blocks.proofs.FieldLaws.{put-length, put-after, put-same, number-before, number-after, zeros-byte}
use Rattle.blocks.proofs.CheckLaws.{check-put, check-small}
use Rattle.files.specs.Layout.{blocks_for}
use Rattle.files.specs.Structs.{HeadOf}
use Rattle.files.specs.Put.{Begun}

-- ---- Begun
pub begun : (n kind number : ℕ) → n ≡ 512 → kind < 65536 → number < 4294967296 → Begun kind number (put 4 (put 2 (replicate n 0) 2 kind) 4 number)
begun n kind number h k m =
    let z : List ℕ = replicate n 0 in
    let lz : length z ≡ n = length-replicate {A = ℕ} n 0 in
    let q : List ℕ = put 2 z 2 kind in
    let lq : length q ≡ length z = put-length 2 z 2 kind in
    record {
      whole = put-length 4 q 4 number ∙ omega arith;
      has_kind = number-before 2 4 q 4 number 2 (omega arith) ∙ put-same 2 z 2 kind (omega arith) (omega arith);
      has_number = put-same 4 q 4 number (omega arith) (omega arith);
      zeros = λ i l b. put-after 4 q 4 number i l ∙ (put-after 2 z 2 kind i (omega arith) ∙ zeros-byte n i);
    }

-- ---- a sealed block
abbrev sealed : List ℕ → List ℕ
sealed q = put 2 q 0 (check_of q)

pub sealed-fits : (q : List ℕ) → length q ≡ 512 → CheckFits (put 2 q 0 (check_of q))
sealed-fits q h = record { stored = put-same 2 q 0 (check_of q) (check-small q) (omega arith) ∙ sym (check-put q (check_of q)) }

-- Two zero bytes are the number 0.
u16-zero : (bs : List ℕ) (f : ℕ) → byte_at bs f ≡ 0 → byte_at bs (f + 1) ≡ 0 → u16_at bs f ≡ 0
unfolding number_at
u16-zero bs f h l =
    let e : byte_at bs (f + 0) ≡ byte_at bs f = let z : f + 0 ≡ f = omega arith in ap (byte_at bs) z in
    omega (arith, h, l, e)

-- ---- HeadOf
module _ (p : List ℕ) (b : Begun 1 0 p) (o n points : ℕ) (ho : o < 65536) (hn : n < 65536) (hp : points < 4294967296) where
  abbrev r1 : List ℕ
  r1 = put 2 p 8 1

  abbrev r2 : List ℕ
  r2 = put 2 r1 10 o

  abbrev r3 : List ℕ
  r3 = put 2 r2 12 n

  abbrev r4 : List ℕ
  r4 = put 4 r3 16 points

  l1 : length r1 ≡ 512
  l1 = put-length 2 p 8 1 ∙ b.whole

  l2 : length r2 ≡ 512
  l2 = put-length 2 r1 10 o ∙ l1

  l3 : length r3 ≡ 512
  l3 = put-length 2 r2 12 n ∙ l2

  l4 : length r4 ≡ 512
  l4 = put-length 4 r3 16 points ∙ l3

  -- a field of 16 bits below 8, and one of 32
  low16 : (f : ℕ) → 2 ≤ f → f + 2 ≤ 8 → u16_at (sealed r4) f ≡ u16_at p f
  low16 f h l =
      number-after 2 2 r4 0 (check_of r4) f (omega arith)
      ∙ (number-before 2 4 r3 16 points f (omega arith)
      ∙ (number-before 2 2 r2 12 n f (omega arith) ∙ (number-before 2 2 r1 10 o f (omega arith) ∙ number-before 2 2 p 8 1 f l)))

  low32 : u32_at (sealed r4) 4 ≡ u32_at p 4
  low32 =
      number-after 4 2 r4 0 (check_of r4) 4 (omega arith)
      ∙ (number-before 4 4 r3 16 points 4 (omega arith)
      ∙ (number-before 4 2 r2 12 n 4 (omega arith) ∙ (number-before 4 2 r1 10 o 4 (omega arith) ∙ number-before 4 2 p 8 1 4 (omega arith))))

  high : (i : ℕ) → 20 ≤ i → byte_at (sealed r4) i ≡ byte_at p i
  high i h =
      put-after 2 r4 0 (check_of r4) i (omega arith)
      ∙ (put-after 4 r3 16 points i (omega arith)
      ∙ (put-after 2 r2 12 n i (omega arith) ∙ (put-after 2 r1 10 o i (omega arith) ∙ put-after 2 p 8 1 i (omega arith))))

  spare : u16_at (sealed r4) 14 ≡ 0
  spare =
      number-after 2 2 r4 0 (check_of r4) 14 (omega arith)
      ∙ (number-before 2 4 r3 16 points 14 (omega arith)
      ∙ (number-after 2 2 r2 12 n 14 (omega arith)
      ∙ (number-after 2 2 r1 10 o 14 (omega arith)
      ∙ (number-after 2 2 p 8 1 14 (omega arith) ∙ u16-zero p 14 (b.zeros 14 (omega arith) (omega arith)) (b.zeros 15 (omega arith) (omega arith))))))

  has-points : u32_at (sealed r4) 16 ≡ points
  has-points = number-after 4 2 r4 0 (check_of r4) 16 (omega arith) ∙ put-same 4 r3 16 points hp (omega (arith, l3))

  pub head-put : HeadOf o n points (sealed r4)
  head-put = record {
    fits = record {
      kind = low16 2 (omega arith) (omega arith) ∙ b.has_kind;
      number = low32 ∙ b.has_number;
      form =
          number-after 2 2 r4 0 (check_of r4) 8 (omega arith)
          ∙ (number-before 2 4 r3 16 points 8 (omega arith)
          ∙ (number-before 2 2 r2 12 n 8 (omega arith) ∙ (number-before 2 2 r1 10 o 8 (omega arith) ∙ put-same 2 p 8 1 (omega arith) (omega (arith, b.whole)))));
      spare = spare;
      rest = λ i h l. high i h ∙ b.zeros i (omega arith) l;
      total = ap blocks_for has-points;
    };
    checked = sealed-fits r4 l4;
    has_objectives =
        number-after 2 2 r4 0 (check_of r4) 10 (omega arith)
        ∙ (number-before 2 4 r3 16 points 10 (omega arith) ∙ (number-before 2 2 r2 12 n 10 (omega arith) ∙ put-same 2 r1 10 o ho (omega (arith, l1))));
    has_variables =
        number-after 2 2 r4 0 (check_of r4) 12 (omega arith)
        ∙ (number-before 2 4 r3 16 points 12 (omega arith) ∙ put-same 2 r2 12 n hn (omega (arith, l2)));
    has_points = has-points;
  }
