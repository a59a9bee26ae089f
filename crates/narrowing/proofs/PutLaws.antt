-- Setting a variable: its bit is 0 in both words, so adding 2 ^ v sets it, and one variable fewer is unset. Last, the part that sets nothing.
use mathlib.Core.Path.{◌≡◌, refl, sym, subst, ◌∙◌}
use mathlib.Core.Logic.{⊎_elim}
use Prim.Native.Nat.{ℕ, suc, ◌+◌, ◌-◌, ◌*◌, ◌%◌, ◌^◌, ◌≤◌, ◌<◌, zero}
use native.Mathlib.Nat.{le_refl, one-mul, pow-succ', two-mul, mod-eq_of_lt}
use lib.Pow.{pow_mono, pow_pos}
use native.Mathlib.Omega.{arith}
use Rattle.charging.specs.declared.parts.Part.{Part}
use Rattle.charging.specs.Rows.{hit, bit, seen, of}
use Rattle.charging.proofs.SumLaws.{span-le, hit-le, sum-drop, hit-eq, hit-ne, eq-or}
use Rattle.charging.proofs.BitLaws.{bit-two, set_same, set_other, set-fits, seen-unset, seen-set}
use Rattle.narrowing.specs.Parts.{unset, Good, Put}

-- an unset variable's bit
pub unset-bit : (s o v : ℕ) → seen s o v ≡ 2 → bit s v ≡ 0
unset-bit s o v e = ⊎_elim (λ z. z) (λ z. absurd (omega (arith, seen-set s o v z, bit-two o v))) (eq-or (bit s v) 0)

-- one variable fewer is unset
pub unset-less : (n s v : ℕ) → v < n → bit s v ≡ 0 → unset n (s + 2 ^ v) + 1 ≤ unset n s
unset-less n s v l e =
    sum-drop (λ (u : ℕ). hit (bit (s + 2 ^ v) u) 0 1) (λ (u : ℕ). hit (bit s u) 0 1) n v 1 (λ u i. each u)
    l (omega (arith, hit-eq (bit s v) 0 1 e, hit-ne (bit (s + 2 ^ v) v) 0 1 (λ z. omega (arith, set_same s v e))))
  where
    each : (u : ℕ) → hit (bit (s + 2 ^ v) u) 0 1 ≤ hit (bit s u) 0 1
    each u =
        ⊎_elim
        (λ z. let same : bit (s + 2 ^ v) v ≡ 1 = set_same s v e in
        let off : hit (bit (s + 2 ^ v) u) 0 1 ≡ 0 = subst (λ (k : ℕ). hit (bit (s + 2 ^ v) k) 0 1 ≡ 0) (sym z) (hit-ne (bit (s + 2 ^ v) v) 0 1 (λ y. omega arith)) in omega arith)
        (λ z. rw (set_other s v u e z) (le_refl (hit (bit s u) 0 1)))
        (eq-or u v)

put-sub : (p : Part) (n v : ℕ) → Good n p → bit p.set v ≡ 0 → (u : ℕ) → bit (p.set + 2 ^ v) u ≡ 0 → bit p.one u ≡ 0
put-sub p n v g e u z =
    ⊎_elim
    (λ y. absurd (omega (arith, set_same p.set v e, subst (λ (k : ℕ). bit (p.set + 2 ^ v) k ≡ 0) y z)))
    (λ y. g.sub u (sym (set_other p.set v u e y) ∙ z))
    (eq-or u v)

put-others : (s o o' v : ℕ) → bit s v ≡ 0 → (u : ℕ) → (u ≡ v → ⊥) → bit o' u ≡ bit o u → seen (s + 2 ^ v) o' u ≡ seen s o u
put-others s o o' v e u f z =
    let k = set_other s v u e f in
    ⊎_elim
    (λ y. seen-unset (s + 2 ^ v) o' u (k ∙ y) ∙ sym (seen-unset s o u y))
    (λ y. seen-set (s + 2 ^ v) o' u (λ x. y (sym k ∙ x)) ∙ z ∙ sym (seen-set s o u y))
    (eq-or (bit s u) 0)

put_count : (n : ℕ) (p : Part) (v : ℕ) → Good n p → v < n → bit p.set v ≡ 0 → (unset n (p.set + 2 ^ v) ≤ p.left - 1) × (p.left - 1 + 1 ≡ p.left)
put_count n p v g l e = let one = unset-less n p.set v l e in let two = g.count in (omega arith, omega arith)

pub put-zero : (n : ℕ) (p : Part) (v : ℕ) (q : Part) → Good n p → v < n → of p v ≡ 2 → q.set ≡ p.set + 2 ^ v → q.one ≡ p.one → q.left ≡ p.left - 1 → Put n p v 0 q
put-zero n p v q g l u es eo el =
    let e = unset-bit p.set p.one v u in
    let k = put_count n p v g l e in
    record {
      good = record { sub = λ i z. rw eo (put-sub p n v g e i (rw es at z)); count = rw (es, el) k.0; fits = rw eo g.fits };
      here = rw (es, eo) (seen-set (p.set + 2 ^ v) p.one v (λ z. omega (arith, set_same p.set v e)) ∙ g.sub v e);
      others = λ i f. rw (es, eo) (put-others p.set p.one p.one v e i f refl);
      fewer = rw el k.1;
    }

pub put_one : (n : ℕ) (p : Part) (v : ℕ) (q : Part) → Good n p → v < n → of p v ≡ 2 → q.set ≡ p.set + 2 ^ v → q.one ≡ p.one + 2 ^ v → q.left ≡ p.left - 1 → Put n p v 1 q
put_one n p v q g l u es eo el =
    let e = unset-bit p.set p.one v u in
    let z₁ = g.sub v e in
    let k = put_count n p v g l e in
    record {
      good = record { sub = λ i z. rw eo (sub i (rw es at z)); count = rw (es, el) k.0; fits = rw eo (set-fits n p.one v g.fits l z₁) };
      here = rw (es, eo) (seen-set (p.set + 2 ^ v) (p.one + 2 ^ v) v (λ z. omega (arith, set_same p.set v e)) ∙ set_same p.one v z₁);
      others = λ i f. rw (es, eo) (put-others p.set p.one (p.one + 2 ^ v) v e i f (set_other p.one v i z₁ f));
      fewer = rw el k.1;
    }
  where
    sub : (i : ℕ) → bit (p.set + 2 ^ v) i ≡ 0 → bit (p.one + 2 ^ v) i ≡ 0
    sub i z =
        let e = unset-bit p.set p.one v u in
        ⊎_elim
        (λ y. absurd (omega (arith, set_same p.set v e, subst (λ (k : ℕ). bit (p.set + 2 ^ v) k ≡ 0) y z)))
        (λ y. set_other p.one v i (g.sub v e) y ∙ put-sub p n v g e i z)
        (eq-or i v)

-- room for one more
pub put-left : (n : ℕ) (p : Part) (v : ℕ) → Good n p → v < n → of p v ≡ 2 → 1 ≤ p.left
put-left n p v g l u = let k = unset-less n p.set v l (unset-bit p.set p.one v u) in let two = g.count in omega arith

pub shifted : (v : ℕ) → v < 64 → 1 * 2 ^ v % 18446744073709551616 ≡ 2 ^ v
shifted v l =
    let p : 2 ^ suc v ≤ 2 ^ 64 = pow_mono l in
    let t : 2 ^ suc v ≡ 2 ^ v + 2 ^ v = pow-succ' 2 v ∙ two-mul (2 ^ v) in
    let q : 1 ≤ 2 ^ v = pow_pos v in
    rw one-mul (mod-eq_of_lt (omega arith))

pub set_room : (n : ℕ) (p : Part) (v : ℕ) → Good n p → of p v ≡ 2 → v < 64
    → (p.set < 2 ^ 64 → p.set + 1 * 2 ^ v % 18446744073709551616 < 2 ^ 64) × (p.one < 2 ^ 64 → p.one + 1 * 2 ^ v % 18446744073709551616 < 2 ^ 64)
set_room n p v g u l =
    let e = unset-bit p.set p.one v u in
    (λ h. rw (shifted v l) (set-fits 64 p.set v h l e), λ h. rw (shifted v l) (set-fits 64 p.one v h l (g.sub v e)))

bit-zero : (v : ℕ) → bit 0 v ≡ 0
unfolding bit
bit-zero zero = refl
bit-zero (suc v) = bit-zero v

-- nothing is set
pub blank-unset : (v : ℕ) → seen 0 0 v ≡ 2
blank-unset v = seen-unset 0 0 v (bit-zero v)

pub blank-good : (n : ℕ) (p : Part) → p.set ≡ 0 → p.one ≡ 0 → p.left ≡ n → Good n p
blank-good n p es eo el =
    record {
      sub = λ v e. rw eo (bit-zero v);
      count = rw (es, el) (let u = span-le (λ (v : ℕ). hit (bit 0 v) 0 1) n 1 (λ v _. hit-le (bit 0 v) 0 1) in omega arith);
      fits = rw eo (pow_pos n);
    }
