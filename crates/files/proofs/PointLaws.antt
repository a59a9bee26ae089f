-- What the stores of points come to: a point, points, a sealed block of points.
use mathlib.Core.Path.{◌≡◌, refl, ap, ap₂, subst, ◌∙◌}
use mathlib.Core.List.{List, [], ◌∷◌}
use Prim.Native.Nat.{ℕ, zero, suc, ◌+◌, ◌*◌, ◌^◌, ◌≤◌, ◌<◌}
use native.Mathlib.Decide.{dec_lt}
use native.Mathlib.Omega.{arith}
use lib.IntN.{ℤ, pos, nat_abs}
use lib.ListN.{length, get_or}
use Rattle.blocks.specs.Fields.{byte_at, u64_at, put, bits_of}
use Rattle.blocks.specs.Check.{check_of}
use Rattle.blocks.proofs.FieldLaws.{put-length, put-before, put-after, put-same, number-agree, number-before, number-after}
use Rattle.blocks.proofs.ByteLaws.{bits-small}
use Rattle.points.specs.Fronts.{Candidate}
use Rattle.points.specs.Lists.{values_at, model_at, point_at}
use Rattle.points.specs.declared.point.Point.{Point}
use Rattle.files.specs.Structs.{candidate_of, PointIn, PointsOf}
use Rattle.files.specs.Put.{Begun, PointPut, PointsPut}
use Rattle.files.proofs.PutLaws.{sealed-fits}

-- ---- PointPut
module _ (p : List ℕ) (at a b c d m : ℕ) where
  abbrev s1 : List ℕ
  s1 = put 8 p at a

  abbrev s2 : List ℕ
  s2 = put 8 s1 (at + 8) b

  abbrev s3 : List ℕ
  s3 = put 8 s2 (at + 16) c

  abbrev s4 : List ℕ
  s4 = put 8 s3 (at + 24) d

  abbrev pub s5 : List ℕ
  s5 = put 8 s4 (at + 32) m

  k1 : length s1 ≡ length p
  k1 = put-length 8 p at a

  k2 : length s2 ≡ length p
  k2 = put-length 8 s1 (at + 8) b ∙ k1

  k3 : length s3 ≡ length p
  k3 = put-length 8 s2 (at + 16) c ∙ k2

  k4 : length s4 ≡ length p
  k4 = put-length 8 s3 (at + 24) d ∙ k3

  five-length : length s5 ≡ length p
  five-length = put-length 8 s4 (at + 32) m ∙ k4

  five-before : (i : ℕ) → i < at → byte_at s5 i ≡ byte_at p i
  five-before i h =
      put-before 8 s4 (at + 32) m i (omega arith)
      ∙ (put-before 8 s3 (at + 24) d i (omega arith)
      ∙ (put-before 8 s2 (at + 16) c i (omega arith) ∙ (put-before 8 s1 (at + 8) b i (omega arith) ∙ put-before 8 p at a i h)))

  five-after : (i : ℕ) → at + 40 ≤ i → byte_at s5 i ≡ byte_at p i
  five-after i h =
      put-after 8 s4 (at + 32) m i (omega arith)
      ∙ (put-after 8 s3 (at + 24) d i (omega arith)
      ∙ (put-after 8 s2 (at + 16) c i (omega arith) ∙ (put-after 8 s1 (at + 8) b i (omega arith) ∙ put-after 8 p at a i (omega arith))))

  module _ (room : at + 40 ≤ length p) where
    first : a < 256 ^ 8 → u64_at s5 at ≡ a
    first q =
        number-before 8 8 s4 (at + 32) m at (omega arith)
        ∙ (number-before 8 8 s3 (at + 24) d at (omega arith)
        ∙ (number-before 8 8 s2 (at + 16) c at (omega arith) ∙ (number-before 8 8 s1 (at + 8) b at (omega arith) ∙ put-same 8 p at a q (omega arith))))

    second : b < 256 ^ 8 → u64_at s5 (at + 8) ≡ b
    second q =
        number-before 8 8 s4 (at + 32) m (at + 8) (omega arith)
        ∙ (number-before 8 8 s3 (at + 24) d (at + 8) (omega arith)
        ∙ (number-before 8 8 s2 (at + 16) c (at + 8) (omega arith) ∙ put-same 8 s1 (at + 8) b q (omega (arith, k1))))

    third : c < 256 ^ 8 → u64_at s5 (at + 16) ≡ c
    third q =
        number-before 8 8 s4 (at + 32) m (at + 16) (omega arith)
        ∙ (number-before 8 8 s3 (at + 24) d (at + 16) (omega arith) ∙ put-same 8 s2 (at + 16) c q (omega (arith, k2)))

    fourth : d < 256 ^ 8 → u64_at s5 (at + 24) ≡ d
    fourth q = number-before 8 8 s4 (at + 32) m (at + 24) (omega arith) ∙ put-same 8 s3 (at + 24) d q (omega (arith, k3))

    fifth : m < 256 ^ 8 → u64_at s5 (at + 32) ≡ m
    fifth q = put-same 8 s4 (at + 32) m q (omega (arith, k4))

-- The bits of number i of a vector.
abbrev bit_at : List ℤ → ℕ → ℕ
bit_at xs i = bits_of (get_or xs i (pos 0))

-- Four values that fit 64 bits.
pub vector-fits : (a b c d : ℤ) → nat_abs a ≤ 2 ^ 63 → nat_abs b ≤ 2 ^ 63 → nat_abs c ≤ 2 ^ 63 → nat_abs d ≤ 2 ^ 63
    → (i : ℕ) → i < 4 → nat_abs (get_or (a ∷ (b ∷ (c ∷ (d ∷ [])))) i (pos 0)) ≤ 2 ^ 63
vector-fits a b c d ha hb hc hd zero h = ha
vector-fits a b c d ha hb hc hd (suc zero) h = hb
vector-fits a b c d ha hb hc hd (suc (suc zero)) h = hc
vector-fits a b c d ha hb hc hd (suc (suc (suc zero))) h = hd
vector-fits a b c d ha hb hc hd (suc (suc (suc (suc i)))) h = absurd (omega arith)

module _ (p : List ℕ) (j : ℕ) (c : Candidate) (whole : length p ≡ 512) (place : j < 12) (fits : (i : ℕ) → i < 4 → nat_abs (get_or c.vector i (pos 0)) ≤ 2 ^ 63) (small : c.model < 256 ^ 8) where
  abbrev from : ℕ
  from = 8 + j * 40

  abbrev bit : ℕ → ℕ
  bit i = bit_at c.vector i

  small_bit : (i : ℕ) → i < 4 → bit i < 256 ^ 8
  small_bit i h = bits-small (get_or c.vector i (pos 0)) (fits i h)

  abbrev put_all : List ℕ
  put_all = s5 p from (bit 0) (bit 1) (bit 2) (bit 3) c.model

  values-put : (i : ℕ) → i < 4 → u64_at put_all (from + i * 8) ≡ bit i
  values-put zero h =
      let e : from + 0 * 8 ≡ from = omega arith in
      ap (u64_at put_all) e ∙ first p from (bit 0) (bit 1) (bit 2) (bit 3) c.model (omega arith) (small_bit 0 h)
  values-put (suc zero) h = ap (u64_at put_all) (omega arith) ∙ second p from (bit 0) (bit 1) (bit 2) (bit 3) c.model (omega arith) (small_bit 1 h)
  values-put (suc (suc zero)) h = ap (u64_at put_all) (omega arith) ∙ third p from (bit 0) (bit 1) (bit 2) (bit 3) c.model (omega arith) (small_bit 2 h)
  values-put (suc (suc (suc zero))) h = ap (u64_at put_all) (omega arith) ∙ fourth p from (bit 0) (bit 1) (bit 2) (bit 3) c.model (omega arith) (small_bit 3 h)
  values-put (suc (suc (suc (suc i)))) h = absurd (omega arith)

  pub point-put : PointPut p j c put_all
  point-put = record {
    whole = five-length p from (bit 0) (bit 1) (bit 2) (bit 3) c.model;
    point = record {
      values = values-put;
      model = fifth p from (bit 0) (bit 1) (bit 2) (bit 3) c.model (omega arith) small;
    };
    before = λ i h. five-before p from (bit 0) (bit 1) (bit 2) (bit 3) c.model i h;
    after = λ i h. five-after p from (bit 0) (bit 1) (bit 2) (bit 3) c.model i (omega arith);
  }

-- What a call that stores a signed number leaves, by the names of its arguments.
pub stored-as : {last arg : List ℕ} {raw : ℤ} (base : List ℕ) (at : ℕ) (z : ℤ) → raw ≡ z → arg ≡ base → last ≡ put 8 arg at (bits_of raw) → last ≡ put 8 base at (bits_of z)
stored-as {raw = raw} base at z e f g = g ∙ (ap (λ (b : List ℕ). put 8 b at (bits_of raw)) f ∙ ap (λ (y : ℤ). put 8 base at (bits_of y)) e)

-- A point that was read from the runs is the candidate there.
pub candidate-at : (vs : List ℤ) (ms : List ℕ) (k : ℕ) (p : Point) → p.values ≡ values_at vs k → p.model ≡ model_at ms k → candidate_of p ≡ point_at vs ms k
candidate-at vs ms k p e f = ap₂ (λ (v : List ℤ) (m : ℕ). record { vector = v; model = m }) e f

-- ---- PointsPut
-- A point stays where the bytes of its place do.
pub point-kept : (q r : List ℕ) (j : ℕ) (c : Candidate) → ((i : ℕ) → 8 + j * 40 ≤ i → i < 8 + (j + 1) * 40 → byte_at r i ≡ byte_at q i) → PointIn q j c → PointIn r j c
point-kept q r j c h p = record {
  values = λ i l. number-agree 8 r (8 + j * 40 + i * 8) q (8 + j * 40 + i * 8) (λ t s. h (8 + j * 40 + i * 8 + t) (omega arith) (omega arith)) ∙ p.values i l;
  model = number-agree 8 r (8 + j * 40 + 32) q (8 + j * 40 + 32) (λ t s. h (8 + j * 40 + 32 + t) (omega arith) (omega arith)) ∙ p.model;
}

pub points_none : (p : List ℕ) (first : ℕ) (vs : List ℤ) (ms : List ℕ) → PointsPut p first 0 vs ms p
points_none p first vs ms = record { whole = refl; points = λ j h. absurd (omega arith); before = λ i h. refl; after = λ i h. refl }

pub points-more : (p q r : List ℕ) (first j : ℕ) (vs : List ℤ) (ms : List ℕ) → PointsPut p first j vs ms q → PointPut q j (point_at vs ms (first + j)) r → PointsPut p first (j + 1) vs ms r
points-more p q r first j vs ms a b = record {
  whole = b.whole ∙ a.whole;
  points = points;
  before = λ i h. b.before i (omega arith) ∙ a.before i h;
  after = λ i h. b.after i h ∙ a.after i (omega arith);
}
  where
    points : (t : ℕ) → t < j + 1 → PointIn r t (point_at vs ms (first + t))
    points t h = by (dec_lt t j)
      where
        by : Dec (t < j) → PointIn r t (point_at vs ms (first + t))
        by (yes l) = point-kept q r t (point_at vs ms (first + t)) (λ i u v. b.before i (omega arith)) (a.points t l)
        by (no l) = let e : j ≡ t = omega arith in subst (λ (s : ℕ). PointIn r s (point_at vs ms (first + s))) e b.point

-- ---- PointsOf
pub points-sealed : (p q : List ℕ) (b first count : ℕ) (vs : List ℤ) (ms : List ℕ) → Begun 2 b p → PointsPut p first count vs ms q → PointsOf b first count vs ms (put 2 q 0 (check_of q))
points-sealed p q b first count vs ms g a =
    let r : List ℕ = put 2 q 0 (check_of q) in
    record {
      fits = record {
        kind =
            number-after 2 2 q 0 (check_of q) 2 (omega arith) ∙ (number-agree 2 q 2 p 2 (λ k l. a.before (2 + k) (omega arith)) ∙ g.has_kind);
        number =
            number-after 4 2 q 0 (check_of q) 4 (omega arith) ∙ (number-agree 4 q 4 p 4 (λ k l. a.before (4 + k) (omega arith)) ∙ g.has_number);
        rest = λ i h l. put-after 2 q 0 (check_of q) i (omega arith) ∙ (a.after i h ∙ g.zeros i (omega arith) l);
      };
      checked = sealed-fits q (a.whole ∙ g.whole);
      points = λ j h. point-kept q r j (point_at vs ms (first + j)) (λ i u v. put-after 2 q 0 (check_of q) i (omega arith)) (a.points j h);
    }
