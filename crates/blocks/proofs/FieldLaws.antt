-- Numbers stored in a block are read back, and all other bytes stay.
use mathlib.Core.Path.{◌≡◌, refl, sym, ap, ap₂, ◌∙◌}
use mathlib.Core.List.{List, [], ◌∷◌, ◌++◌, append_assoc}
use Prim.Native.Nat.{ℕ, zero, suc, ◌+◌, ◌*◌, ◌/◌, ◌%◌, ◌^◌, ◌≤◌, ◌<◌}
use native.Mathlib.Decide.{dec_lt}
use native.Mathlib.Nat.{lt_of_lt_of_le, div-div-eq-div-mul, pow-succ', pow-suc, pow-le-pow_right}
use native.Mathlib.Omega.{arith}
use lib.ListN.{length, get_or, set, take, drop, replicate, length-take, length-set, length-replicate, get_or-replicate, get_or-eq_default}
use lib.ListN.{take-append-drop}
use Rattle.std.specs.Int
use Rattle.std.specs.Int.{bytes_high_first}
use Rattle.std.proofs.lemmas.List.{take-set-le, drop-set}
use lib.Seq.{get_or-drop, get_or-take, get_or-set_same, get_or-set_other}
use Rattle.blocks.specs.Fields.{byte_at, number_at, put}

-- ---- bytes that agree
-- The n bytes of a from i on are those of b from j on.
abbrev pub Agree : List ℕ → ℕ → List ℕ → ℕ → ℕ → Type 0
Agree a i b j n = (k : ℕ) → k < n → byte_at a (i + k) ≡ byte_at b (j + k)

pub number-agree : (n : ℕ) (a : List ℕ) (i : ℕ) (b : List ℕ) (j : ℕ) → Agree a i b j n → number_at n a i ≡ number_at n b j
unfolding number_at
number-agree zero a i b j h = refl
number-agree (suc n) a i b j h = ap₂ (λ (x y : ℕ). x * 256 + y) (number-agree n a i b j (λ k l. h k (omega arith))) (h n (omega arith))

-- ---- a byte more
pub number-next : (n : ℕ) (bs : List ℕ) (at : ℕ) → number_at n bs at * 256 + byte_at bs (at + n) ≡ number_at (n + 1) bs at
unfolding number_at
number-next n bs at = let e : suc n ≡ n + 1 = omega arith in ap (λ (m : ℕ). number_at m bs at) e

pub next-small : (n x b : ℕ) → x < 256 ^ n → b < 256 → x * 256 + b < 256 ^ (n + 1)
next-small n x b h l =
    let e : suc n ≡ n + 1 = omega arith in
    let f : 256 ^ (n + 1) ≡ 256 ^ n * 256 = sym (ap (λ (m : ℕ). 256 ^ m) e) ∙ pow-suc 256 n in
    omega (arith, h, l, f)

pub next-fits : (n x b : ℕ) → n < 8 → x < 256 ^ n → b < 256 → x * 256 + b < 2 ^ 64
next-fits n x b k h l = lt_of_lt_of_le (next-small n x b h l) (pow-le-pow_right {n = 256} (omega arith) {i = n + 1} {j = 8} (omega arith))

-- The bytes of a part, as the code goes over them.
module _ (m at : ℕ) (bs : List ℕ) (i : ℕ) (h : i < length (take m (drop at bs))) where
  pub part-place : i < m
  part-place = omega (arith, h, length-take m (drop at bs))

  pub part-byte : get_or (take m (drop at bs)) i 0 ≡ byte_at bs (at + i)
  part-byte = get_or-take m (drop at bs) i 0 part-place ∙ get_or-drop at bs i 0

-- ---- put
pub put-length : (n : ℕ) (bs : List ℕ) (at x : ℕ) → length (put n bs at x) ≡ length bs
unfolding put
put-length zero bs at x = refl
put-length (suc n) bs at x = put-length n (set bs (at + n) (x % 256)) at (x / 256) ∙ length-set bs (at + n) (x % 256)

pub put-before : (n : ℕ) (bs : List ℕ) (at x i : ℕ) → i < at → byte_at (put n bs at x) i ≡ byte_at bs i
unfolding put
put-before zero bs at x i h = refl
put-before (suc n) bs at x i h =
    put-before n (set bs (at + n) (x % 256)) at (x / 256) i h ∙ get_or-set_other bs (at + n) i (x % 256) 0 (λ e. omega arith)

pub put-after : (n : ℕ) (bs : List ℕ) (at x i : ℕ) → at + n ≤ i → byte_at (put n bs at x) i ≡ byte_at bs i
unfolding put
put-after zero bs at x i h = refl
put-after (suc n) bs at x i h =
    put-after n (set bs (at + n) (x % 256)) at (x / 256) i (omega arith) ∙ get_or-set_other bs (at + n) i (x % 256) 0 (λ e. omega arith)

pub put-same : (n : ℕ) (bs : List ℕ) (at x : ℕ) → x < 256 ^ n → at + n ≤ length bs → number_at n (put n bs at x) at ≡ x
unfolding put number_at
put-same zero bs at x h l = omega arith
put-same (suc n) bs at x h l =
    let b = set bs (at + n) (x % 256) in
    let high : x / 256 < 256 ^ n = omega (arith, h, pow-suc 256 n) in
    let low : byte_at (put n b at (x / 256)) (at + n) ≡ x % 256 =
    put-after n b at (x / 256) (at + n) (omega arith) ∙ get_or-set_same bs (at + n) (x % 256) 0 (omega arith)
    in
    omega (arith, low, put-same n b at (x / 256) high (omega (arith, length-set bs (at + n) (x % 256))))

-- ---- the bytes of a number, as the library has them
byte-up : (m x : ℕ) → Int.byte_at (suc m) x ≡ Int.byte_at m (x / 256)
byte-up zero x = refl
byte-up (suc k) x =
    ap (λ (d : ℕ). d % 256) (ap (λ (e : ℕ). x / e) (pow-succ' 256 (suc k)) ∙ sym (div-div-eq-div-mul x 256 (256 ^ suc k)))

bytes-snoc : (n x : ℕ) → bytes_high_first (suc n) x ≡ bytes_high_first n (x / 256) ++ (x % 256 ∷ [])
bytes-snoc zero x = refl
bytes-snoc (suc m) x = ap₂ ◌∷◌ (byte-up m x) (bytes-snoc m x)

pub bytes-length : (n x : ℕ) → length (bytes_high_first n x) ≡ n
bytes-length zero x = refl
bytes-length (suc n) x = ap suc (bytes-length n x)

pub bytes-tail : (d n x : ℕ) → drop d (bytes_high_first (d + n) x) ≡ bytes_high_first n x
bytes-tail zero n x = let e : 0 + n ≡ n = omega arith in ap (λ (m : ℕ). bytes_high_first m x) e
bytes-tail (suc d) n x =
    let e : suc d + n ≡ suc (d + n) = omega arith in ap (λ (m : ℕ). drop (suc d) (bytes_high_first m x)) e ∙ bytes-tail d n x

pub put-bytes : (n : ℕ) (bs : List ℕ) (at x : ℕ) → at + n ≤ length bs → put n bs at x ≡ take at bs ++ (bytes_high_first n x ++ drop (at + n) bs)
unfolding put
put-bytes zero bs at x h =
    let e : at ≡ at + 0 = omega arith in sym (take-append-drop at bs) ∙ ap (λ (m : ℕ). take at bs ++ drop m bs) e
put-bytes (suc n) bs at x h =
    let v = x % 256 in
    let b = set bs (at + n) v in
    let e : at + n + 1 ≡ at + suc n = omega arith in
    put-bytes n b at (x / 256) (omega (arith, length-set bs (at + n) v))
    ∙ ap₂ (λ (l r : List ℕ). l ++ r) (take-set-le at bs (at + n) v (omega arith))
    (ap (λ (r : List ℕ). bytes_high_first n (x / 256) ++ r) (drop-set bs (at + n) v (omega arith))
    ∙ (sym (append_assoc (bytes_high_first n (x / 256)) (v ∷ []) (drop (at + n + 1) bs))
    ∙ ap₂ (λ (l : List ℕ) (m : ℕ). l ++ drop m bs) (sym (bytes-snoc n x)) e))

-- ---- a number beside one that is stored
module _ (m n : ℕ) (bs : List ℕ) (at x f : ℕ) where
  pub number-before : f + m ≤ at → number_at m (put n bs at x) f ≡ number_at m bs f
  number-before h = number-agree m (put n bs at x) f bs f (λ k l. put-before n bs at x (f + k) (omega arith))

  pub number-after : at + n ≤ f → number_at m (put n bs at x) f ≡ number_at m bs f
  number-after h = number-agree m (put n bs at x) f bs f (λ k l. put-after n bs at x (f + k) (omega arith))

-- ---- a block of zeros
pub zeros-byte : (n i : ℕ) → byte_at (replicate n 0) i ≡ 0
zeros-byte n i = by (dec_lt i n)
  where
    by : Dec (i < n) → byte_at (replicate n 0) i ≡ 0
    by (yes h) = get_or-replicate n i 0 0 h
    by (no h) = get_or-eq_default (replicate n 0) 0 (omega (arith, length-replicate {A = ℕ} n 0))
