-- Tables that grow by one entry. Assumes nothing.
use mathlib.Core.Path.{◌≡◌, refl, sym, ap, ap₂, ◌∙◌}
use mathlib.Core.Bool.{false}
use mathlib.Core.List.{List, [], ◌∷◌, ◌++◌, append_assoc, append-nil}
use Prim.Native.Nat.{ℕ, zero, suc, ◌+◌, ◌-◌, ◌*◌, ◌≤◌, ◌<◌}
use native.Mathlib.Omega.{arith}
use lib.IntN.{ℤ, pos}
use lib.ListN.{length, take, drop, set, replicate, length-append, length-replicate, length-drop}
use lib.Seq.{take_at, drop_at, drop-append-add, drop-append-le, set_at, sets, sets-eq}
use Rattle.words.proofs.ByteLaws.{or-neither}
use Rattle.instance.specs.Limits.{max_terms, max_entries, term_room, row_room}
use Rattle.instance.specs.Terms.{Term}
use Rattle.instance.specs.Rows.{Entry}
use Rattle.instance.specs.Layout.{term_numbers, all_terms, entry_numbers, filled, term_table, row_table}
use Rattle.instance.proofs.NumberLaws.{all_terms-append, term_numbers-append, term_numbers-length, entry_numbers-append, entry_numbers-length}
use Rattle.reading.specs.Reading.{any, is_wide, is_unnamed}
use Rattle.reading.specs.Stored.{stored}
use Rattle.reading.proofs.CellLaws.{store-yes}

-- ---- filled

drop-replicate : (k n : ℕ) → k ≤ n → drop k (replicate n (pos 0)) ≡ replicate (n - k) (pos 0)
drop-replicate zero n h = ap (λ (m : ℕ). replicate m (pos 0)) same
  where
    same : n ≡ n - 0
    same = omega arith
drop-replicate (suc k) zero h = absurd (omega arith)
drop-replicate (suc k) (suc n) h = drop-replicate k n (omega arith) ∙ ap (λ (m : ℕ). replicate m (pos 0)) same
  where
    same : n - k ≡ suc n - suc k
    same = omega arith

module _ (room : ℕ) (xs ys found : List ℤ) (h : length xs + length ys ≤ room) where
  -- ys written just after xs are filled in
  pub fill-next : take (length xs) (filled room xs found) ++ (ys ++ drop (length xs + length ys) (filled room xs found)) ≡ filled room (xs ++ ys) found
  fill-next =
      ap₂ (λ (a b : List ℤ). a ++ (ys ++ b)) (take_at xs (replicate (room - length xs) (pos 0) ++ drop room found) (length xs) refl) rest
      ∙ sym (append_assoc xs ys (replicate (room - length (xs ++ ys)) (pos 0) ++ drop room found))
    where
      left : room - length xs - length ys ≡ room - length (xs ++ ys)
      left = omega (arith, length-append xs ys)

      rest : drop (length xs + length ys) (filled room xs found) ≡ replicate (room - length (xs ++ ys)) (pos 0) ++ drop room found
      rest =
          drop-append-add xs (replicate (room - length xs) (pos 0) ++ drop room found) (length ys)
          ∙ drop-append-le (length ys) (replicate (room - length xs) (pos 0)) (drop room found) (omega (arith, length-replicate (room - length xs) (pos 0)))
          ∙ ap (λ (l : List ℤ). l ++ drop room found) (drop-replicate (length ys) (room - length xs) (omega arith) ∙ ap (λ (m : ℕ). replicate m (pos 0)) left)

pub fill-length : (room : ℕ) (xs found : List ℤ) → length xs ≤ room → room ≤ length found → length (filled room xs found) ≡ length found
fill-length room xs found h k =
    length-append xs (replicate (room - length xs) (pos 0) ++ drop room found)
    ∙ ap (λ (n : ℕ). length xs + n) (length-append (replicate (room - length xs) (pos 0)) (drop room found) ∙ ap₂ ◌+◌ (length-replicate (room - length xs) (pos 0)) (length-drop room found))
    ∙ sum
  where
    sum : length xs + (room - length xs + (length found - room)) ≡ length found
    sum = omega arith

-- beyond the room all is as found
pub fill-beyond : (room : ℕ) (xs found : List ℤ) → length xs ≤ room → drop room (filled room xs found) ≡ drop room found
fill-beyond room xs found h = ap (λ (n : ℕ). drop n (filled room xs found)) (sym up) ∙ drop-append-add xs (replicate (room - length xs) (pos 0) ++ drop room found) (room - length xs) ∙ drop_at (replicate (room - length xs) (pos 0)) (drop room found) (room - length xs) (length-replicate (room - length xs) (pos 0))
  where
    up : length xs + (room - length xs) ≡ room
    up = omega arith

-- ---- terms stored one after the other

two : (p q : List ℤ) (k : ℕ) (t : Term) (a b : ℤ) → length p ≡ k * 2 → set (set (p ++ (a ∷ (b ∷ q))) (k * 2) t.coef) (k * 2 + 1) t.lit ≡ (p ++ (t.coef ∷ (t.lit ∷ []))) ++ q
two p q k t a b h =
    ap (λ (l : List ℤ). set l (k * 2 + 1) t.lit) (set_at p a (b ∷ q) t.coef (k * 2) h ∙ sym (append_assoc p (t.coef ∷ []) (b ∷ q)))
    ∙ set_at (p ++ (t.coef ∷ [])) b q t.lit (k * 2 + 1) (length-append p (t.coef ∷ []) ∙ ap (λ (n : ℕ). n + 1) h)
    ∙ append_assoc p (t.coef ∷ []) (t.lit ∷ q)
    ∙ sym (append_assoc p (t.coef ∷ (t.lit ∷ [])) q)

pub stored-all : (us : List Term) (p q : List ℤ) (k : ℕ) → length p ≡ k * 2 → any is_wide us ≡ false → any is_unnamed us ≡ false → k + length us ≤ max_terms → length us * 2 ≤ length q
    → stored (p ++ q) k us ≡ p ++ (term_numbers us ++ drop (length us * 2) q)
unfolding stored term_numbers any
stored-all [] p q k h w n m l = refl
stored-all (u ∷ us) p [] k h w n m l = absurd (omega arith)
stored-all (u ∷ us) p (a ∷ []) k h w n m l = absurd (omega arith)
stored-all (u ∷ us) p (a ∷ (b ∷ q)) k h w n m l =
    ap (λ (x : List ℤ). stored x (suc k) us) (sym (store-yes (p ++ (a ∷ (b ∷ q))) k u (omega arith) (or-neither (is_wide u) (any is_wide us) w).0 (or-neither (is_unnamed u) (any is_unnamed us) n).0) ∙ two p q k u a b h)
    ∙ stored-all us (p ++ (u.coef ∷ (u.lit ∷ []))) q (suc k) longer (or-neither (is_wide u) (any is_wide us) w).1 (or-neither (is_unnamed u) (any is_unnamed us) n).1 (omega arith) (omega arith)
    ∙ append_assoc p (u.coef ∷ (u.lit ∷ [])) (term_numbers us ++ drop (length us * 2) q)
    ∙ ap (λ (j : ℕ). p ++ (u.coef ∷ (u.lit ∷ (term_numbers us ++ drop j (a ∷ (b ∷ q)))))) same
  where
    longer : length (p ++ (u.coef ∷ (u.lit ∷ []))) ≡ suc k * 2
    longer = omega (arith, length-append p (u.coef ∷ (u.lit ∷ [])), h)

    same : suc (suc (length us * 2)) ≡ suc (length us) * 2
    same = omega arith

-- ---- one entry more

pub terms-room : (es : List Entry) → length (all_terms es) ≤ max_terms → length (term_numbers (all_terms es)) ≤ term_room
terms-room es h = omega (arith, term_numbers-length (all_terms es))

pub rows-room : (es : List Entry) → length es ≤ max_entries → length (entry_numbers 0 es) ≤ row_room
rows-room es h = omega (arith, entry_numbers-length 0 es)

pub all_terms-last : (es : List Entry) (e : Entry) → all_terms (es ++ (e ∷ [])) ≡ all_terms es ++ e.terms
unfolding all_terms
all_terms-last es e = all_terms-append es (e ∷ []) ∙ ap (λ (ts : List Term). all_terms es ++ ts) (append-nil e.terms)

pub terms-next : (es : List Entry) (e : Entry) (found : List ℤ) → any is_wide e.terms ≡ false → any is_unnamed e.terms ≡ false → length (all_terms es) + length e.terms ≤ max_terms
    → stored (term_table es found) (length (all_terms es)) e.terms ≡ term_table (es ++ (e ∷ [])) found
terms-next es e found w n h =
    stored-all e.terms xs (replicate (term_room - length xs) (pos 0) ++ drop term_room found) (length (all_terms es)) (term_numbers-length (all_terms es)) w n h long
    ∙ ap (λ (l : List ℤ). xs ++ (term_numbers e.terms ++ l)) more
    ∙ sym (append_assoc xs (term_numbers e.terms) (replicate (term_room - length (xs ++ term_numbers e.terms)) (pos 0) ++ drop term_room found))
    ∙ ap (λ (l : List ℤ). filled term_room l found) (sym (term_numbers-append (all_terms es) e.terms) ∙ ap term_numbers (sym (all_terms-last es e)))
  where
    xs : List ℤ
    xs = term_numbers (all_terms es)

    zeros : ℕ
    zeros = term_room - length xs

    size : length xs ≡ length (all_terms es) * 2
    size = term_numbers-length (all_terms es)

    sizes : length (xs ++ term_numbers e.terms) ≡ length (all_terms es) * 2 + length e.terms * 2
    sizes = length-append xs (term_numbers e.terms) ∙ ap₂ ◌+◌ size (term_numbers-length e.terms)

    fits : length e.terms * 2 ≤ length (replicate (term_room - length xs) (pos 0))
    fits = omega (arith, length-replicate (term_room - length xs) (pos 0), size)

    long : length e.terms * 2 ≤ length (replicate (term_room - length xs) (pos 0) ++ drop term_room found)
    long = omega (arith, length-append (replicate (term_room - length xs) (pos 0)) (drop term_room found), fits)

    left : term_room - length xs - length e.terms * 2 ≡ term_room - length (xs ++ term_numbers e.terms)
    left = omega (arith, size, sizes)

    more : drop (length e.terms * 2) (replicate (term_room - length xs) (pos 0) ++ drop term_room found) ≡ replicate (term_room - length (xs ++ term_numbers e.terms)) (pos 0) ++ drop term_room found
    more =
        drop-append-le (length e.terms * 2) (replicate (term_room - length xs) (pos 0)) (drop term_room found) fits
        ∙ ap (λ (l : List ℤ). l ++ drop term_room found) (drop-replicate (length e.terms * 2) (term_room - length xs) (omega (arith, size)) ∙ ap (λ (m : ℕ). replicate m (pos 0)) left)

pub rows_next : (es : List Entry) (e : Entry) (found : List ℤ) → length es < max_entries → row_room ≤ length found
    → sets (row_table es found) (length es * 4) (pos e.kind ∷ (pos (length (all_terms es)) ∷ (pos (length e.terms) ∷ (e.bound ∷ [])))) ≡ row_table (es ++ (e ∷ [])) found
unfolding entry_numbers
rows_next es e found h k =
    sets-eq four (row_table es found) (length es * 4) inside
    ∙ append_assoc (take (length es * 4) (row_table es found)) four (drop (length es * 4 + length four) (row_table es found))
    ∙ ap (λ (n : ℕ). take n (row_table es found) ++ (four ++ drop (n + length four) (row_table es found))) (sym size)
    ∙ fill-next row_room (entry_numbers 0 es) four found (omega (arith, size))
    ∙ ap (λ (l : List ℤ). filled row_room l found) (sym (entry_numbers-append 0 es (e ∷ []) ∙ ap (λ (n : ℕ). entry_numbers 0 es ++ entry_numbers n (e ∷ [])) none))
  where
    none : 0 + length (all_terms es) ≡ length (all_terms es)
    none = omega arith

    four : List ℤ
    four = pos e.kind ∷ (pos (length (all_terms es)) ∷ (pos (length e.terms) ∷ (e.bound ∷ [])))

    size : length (entry_numbers 0 es) ≡ length es * 4
    size = entry_numbers-length 0 es

    inside : length es * 4 + 4 ≤ length (row_table es found)
    inside = omega (arith, fill-length row_room (entry_numbers 0 es) found (omega (arith, size)) k)
