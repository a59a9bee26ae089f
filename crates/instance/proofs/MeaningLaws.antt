-- Tables that are an instance mean one that tables can hold, and are the tables that hold it.
use mathlib.Core.Path.{◌≡◌, refl, sym, ap, ◌∙◌, subst}
use mathlib.Core.List.{List, [], ◌∷◌, ◌++◌, Memᴰ, append_assoc, append-nil}
use Prim.Native.Nat.{ℕ, zero, suc, ◌+◌, ◌-◌, ◌*◌, ◌≤◌, ◌<◌}
use native.Mathlib.Numerals.{add-one}
use native.Mathlib.Omega.{arith}
use lib.IntN.{ℤ, pos, negsuc, nat_abs}
use lib.ListN.{length, get_or, take, drop, replicate, length-drop, length-replicate, get_or-replicate, take-append-drop}
use lib.Seq.{take-suc, take-add, length-take-le, get_or-take, get_or-drop, ext_get_or}
use lib.Signed.{non_neg}
use lib.Dec.{T}
use Rattle.instance.specs.Limits.{term_room, row_room}
use Rattle.instance.specs.Lists.{tabulate}
use Rattle.instance.specs.Terms.{Term, TermOk, highest}
use Rattle.instance.specs.Tables.{term_at, kind_at, first_at, count_at, bound_at, objectives_in, rows_in, entries_in, terms_in, terms_before, ZeroFrom, IsInstance}
use Rattle.instance.specs.Meaning.{entries, terms_at, entry_at, meaning}
use Rattle.instance.specs.Layout.{term_numbers, all_terms, entry_numbers, filled, term_table, row_table, ObjectiveOk, RowOk, Within}
use Rattle.instance.proofs.ListLaws.{tabulate-append, tabulate-snoc, tabulate-length, tabulate-each}
use Rattle.instance.proofs.NumberLaws.{all_terms-append, term_numbers-append, entry_numbers-append}
use Rattle.instance.proofs.InstanceLaws.{objective-kind, row-kind, kind-natural, terms-ok}

-- ---- the first numbers of a table
take-two : (l : List ℤ) (j : ℕ) → j + 2 ≤ length l → take (j + 2) l ≡ take j l ++ (get_or l j (pos 0) ∷ (get_or l (j + 1) (pos 0) ∷ []))
take-two l j h =
    let e : j + 2 ≡ suc (j + 1) = omega arith in
    let f : j + 1 ≡ suc j = omega arith in
    ap (λ (n : ℕ). take n l) e
    ∙ (take-suc l (j + 1) (pos 0) (omega arith)
    ∙ (ap (λ (xs : List ℤ). xs ++ (get_or l (j + 1) (pos 0) ∷ [])) (ap (λ (n : ℕ). take n l) f ∙ take-suc l j (pos 0) (omega arith))
    ∙ append_assoc (take j l) (get_or l j (pos 0) ∷ []) (get_or l (j + 1) (pos 0) ∷ [])))

take-four : (l : List ℤ) (j : ℕ)
    → j + 4 ≤ length l
    → take (j + 4) l ≡ take j l ++ (get_or l j (pos 0) ∷ (get_or l (j + 1) (pos 0) ∷ (get_or l (j + 2) (pos 0) ∷ (get_or l (j + 3) (pos 0) ∷ []))))
take-four l j h =
    let e : j + 4 ≡ (j + 2) + 2 = omega arith in
    let f : (j + 2) + 1 ≡ j + 3 = omega arith in
    ap (λ (n : ℕ). take n l) e
    ∙ (take-two l (j + 2) (omega arith)
    ∙ (ap (λ (xs : List ℤ). xs ++ (get_or l (j + 2) (pos 0) ∷ (get_or l ((j + 2) + 1) (pos 0) ∷ []))) (take-two l j (omega arith))
    ∙ (append_assoc (take j l) (get_or l j (pos 0) ∷ (get_or l (j + 1) (pos 0) ∷ [])) (get_or l (j + 2) (pos 0) ∷ (get_or l ((j + 2) + 1) (pos 0) ∷ []))
    ∙ ap (λ (n : ℕ). take j l ++ (get_or l j (pos 0) ∷ (get_or l (j + 1) (pos 0) ∷ (get_or l (j + 2) (pos 0) ∷ (get_or l n (pos 0) ∷ []))))) f)))

-- The first n terms are the first 2n numbers.
pub table-terms : (ts : List ℤ) (n : ℕ) → n * 2 ≤ length ts → term_numbers (terms_at ts 0 n) ≡ take (n * 2) ts
unfolding term_numbers tabulate
table-terms ts zero h = refl
table-terms ts (suc n) h =
    let e : (n * 2) + 2 ≡ suc n * 2 = omega arith in
    let z : 0 + n ≡ n = omega arith in
    ap (λ (m : ℕ). term_numbers (terms_at ts 0 m)) (sym (add-one n))
    ∙ (ap term_numbers (tabulate-snoc (term_at ts) 0 n)
    ∙ (term_numbers-append (terms_at ts 0 n) (term_at ts (0 + n) ∷ [])
    ∙ (ap (λ (l : List ℤ). l ++ term_numbers (term_at ts (0 + n) ∷ [])) (table-terms ts n (omega arith))
    ∙ (ap (λ (k : ℕ). take (n * 2) ts ++ term_numbers (term_at ts k ∷ [])) z
    ∙ (sym (take-two ts (n * 2) (omega arith)) ∙ ap (λ (m : ℕ). take m ts) e)))))

pos-natural : (z : ℤ) → T (non_neg z) → pos (nat_abs z) ≡ z
pos-natural (pos n) h = refl
pos-natural (negsuc n) h = absurd h

-- ---- the terms and the numbers of the first n entries
module _ (ts rs : List ℤ) where
  pub table-all_terms : (n : ℕ) → ((k : ℕ) → k < n → first_at rs k ≡ pos (terms_before rs k)) → all_terms (tabulate (entry_at ts rs) 0 n) ≡ terms_at ts 0 (terms_before rs n)
  unfolding all_terms tabulate terms_before
  table-all_terms zero h = refl
  table-all_terms (suc n) h =
      let z : 0 + n ≡ n = omega arith in
      let b = terms_before rs n in
      let e : nat_abs (first_at rs n) ≡ 0 + b = ap nat_abs (h n (omega arith)) ∙ omega arith in
      ap (λ (m : ℕ). all_terms (tabulate (entry_at ts rs) 0 m)) (sym (add-one n))
      ∙ (ap all_terms (tabulate-snoc (entry_at ts rs) 0 n)
      ∙ (all_terms-append (tabulate (entry_at ts rs) 0 n) (entry_at ts rs (0 + n) ∷ [])
      ∙ (ap (λ (l : List Term). l ++ all_terms (entry_at ts rs (0 + n) ∷ [])) (table-all_terms n (λ k l. h k (omega arith)))
      ∙ (ap (λ (k : ℕ). terms_at ts 0 b ++ all_terms (entry_at ts rs k ∷ [])) z
      ∙ (ap (λ (l : List Term). terms_at ts 0 b ++ l) (append-nil (terms_at ts (nat_abs (first_at rs n)) (nat_abs (count_at rs n))))
      ∙ (ap (λ (f : ℕ). terms_at ts 0 b ++ terms_at ts f (nat_abs (count_at rs n))) e ∙ sym (tabulate-append (term_at ts) 0 b (nat_abs (count_at rs n)))))))))

  -- One entry of the table, laid out again after the terms before it, is its four numbers.
  entry-numbers : (n f : ℕ)
      → T (non_neg (kind_at rs n))
      → first_at rs n ≡ pos f
      → T (non_neg (count_at rs n))
      → entry_numbers f (entry_at ts rs n ∷ []) ≡ kind_at rs n ∷ (first_at rs n ∷ (count_at rs n ∷ (bound_at rs n ∷ [])))
  unfolding entry_numbers
  entry-numbers n f k e c =
      let m : pos (length (terms_at ts (nat_abs (first_at rs n)) (nat_abs (count_at rs n)))) ≡ count_at rs n =
      ap pos (tabulate-length (term_at ts) (nat_abs (first_at rs n)) (nat_abs (count_at rs n))) ∙ pos-natural (count_at rs n) c
      in
      ap (λ (z : ℤ). z ∷ (pos f ∷ (pos (length (terms_at ts (nat_abs (first_at rs n)) (nat_abs (count_at rs n)))) ∷ (bound_at rs n ∷ [])))) (pos-natural (kind_at rs n) k)
      ∙ (ap (λ (z : ℤ). kind_at rs n ∷ (z ∷ (pos (length (terms_at ts (nat_abs (first_at rs n)) (nat_abs (count_at rs n)))) ∷ (bound_at rs n ∷ [])))) (sym e)
      ∙ ap (λ (z : ℤ). kind_at rs n ∷ (first_at rs n ∷ (z ∷ (bound_at rs n ∷ [])))) m)

  pub table-entries : (n : ℕ)
      → n * 4 ≤ length rs
      → ((k : ℕ) → k < n → T (non_neg (kind_at rs k)))
      → ((k : ℕ) → k < n → first_at rs k ≡ pos (terms_before rs k))
      → ((k : ℕ) → k < n → T (non_neg (count_at rs k)))
      → entry_numbers 0 (tabulate (entry_at ts rs) 0 n) ≡ take (n * 4) rs
  unfolding entry_numbers tabulate
  table-entries zero h k f c = refl
  table-entries (suc n) h k f c =
      let z : 0 + n ≡ n = omega arith in
      let e : (n * 4) + 4 ≡ suc n * 4 = omega arith in
      let xs = tabulate (entry_at ts rs) 0 n in
      let b : 0 + length (all_terms xs) ≡ terms_before rs n =
      omega (arith, ap length (table-all_terms n (λ j l. f j (omega arith))) ∙ tabulate-length (term_at ts) 0 (terms_before rs n))
      in
      ap (λ (m : ℕ). entry_numbers 0 (tabulate (entry_at ts rs) 0 m)) (sym (add-one n))
      ∙ (ap (entry_numbers 0) (tabulate-snoc (entry_at ts rs) 0 n)
      ∙ (entry_numbers-append 0 xs (entry_at ts rs (0 + n) ∷ [])
      ∙ (ap (λ (l : List ℤ). l ++ entry_numbers (0 + length (all_terms xs)) (entry_at ts rs (0 + n) ∷ []))
      (table-entries n (omega arith) (λ j l. k j (omega arith)) (λ j l. f j (omega arith)) (λ j l. c j (omega arith)))
      ∙ (ap (λ (g : ℕ). take (n * 4) rs ++ entry_numbers g (entry_at ts rs (0 + n) ∷ [])) b
      ∙ (ap (λ (j : ℕ). take (n * 4) rs ++ entry_numbers (terms_before rs n) (entry_at ts rs j ∷ [])) z
      ∙ (ap (λ (l : List ℤ). take (n * 4) rs ++ l) (entry-numbers n (terms_before rs n) (k n (omega arith)) (f n (omega arith)) (c n (omega arith)))
      ∙ (sym (take-four rs (n * 4) (omega arith)) ∙ ap (λ (m : ℕ). take m rs) e)))))))

-- ---- filled
-- A table whose numbers after the first n are zero up to the room is its first n numbers, filled up.
pub filled-same : (room n : ℕ) (xs : List ℤ) → n ≤ room → room ≤ length xs → ZeroFrom xs n room → filled room (take n xs) xs ≡ xs
filled-same room n xs h l z =
    let d = room - n in
    let e : n + d ≡ room = omega arith in
    let s : length (take n xs) ≡ n = length-take-le n xs (omega arith) in
    let t : length (take d (drop n xs)) ≡ d = length-take-le d (drop n xs) (omega (arith, length-drop n xs)) in
    let zeros : replicate d (pos 0) ≡ take d (drop n xs) =
    ext_get_or (pos 0) (replicate d (pos 0)) (take d (drop n xs)) (length-replicate d (pos 0) ∙ sym t)
    (λ i m.
    let m' : i < d = subst (λ (k : ℕ). i < k) (length-replicate d (pos 0)) m in
    get_or-replicate d i (pos 0) (pos 0) m' ∙ (sym (z (n + i) (omega arith) (omega arith)) ∙ (sym (get_or-drop n xs i (pos 0)) ∙ sym (get_or-take d (drop n xs) i (pos 0) m'))))
    in
    ap (λ (k : ℕ). take n xs ++ (replicate (room - k) (pos 0) ++ drop room xs)) s
    ∙ (ap (λ (m : List ℤ). take n xs ++ (m ++ drop room xs)) zeros
    ∙ (sym (append_assoc (take n xs) (take d (drop n xs)) (drop room xs))
    ∙ (ap (λ (m : List ℤ). m ++ drop room xs) (sym (take-add n d xs) ∙ ap (λ (k : ℕ). take k xs) e) ∙ take-append-drop room xs)))

-- ---- IsInstance
module _ {ts rs : List ℤ} (i : IsInstance ts rs) where
  -- The entries of the meaning are all used entries of the table, and their terms all terms within the total.
  pub instance-entries : entries (meaning ts rs) ≡ tabulate (entry_at ts rs) 0 (entries_in rs)
  instance-entries =
      let e : objectives_in rs ≡ 0 + objectives_in rs = omega arith in
      ap (λ (k : ℕ). tabulate (entry_at ts rs) 0 (objectives_in rs) ++ tabulate (entry_at ts rs) k (rows_in rs)) e
      ∙ sym (tabulate-append (entry_at ts rs) 0 (objectives_in rs) (rows_in rs))

  pub instance-all_terms : all_terms (entries (meaning ts rs)) ≡ terms_at ts 0 (terms_in rs)
  instance-all_terms = ap all_terms instance-entries ∙ table-all_terms ts rs (entries_in rs) (λ k h. (i.used k h).first)

  pub instance-terms : term_table (entries (meaning ts rs)) ts ≡ ts
  instance-terms =
      ap (λ (l : List ℤ). filled term_room l ts)
      (ap term_numbers instance-all_terms ∙ table-terms ts (terms_in rs) (omega (arith, i.few_terms, i.terms_room)))
      ∙ filled-same term_room (terms_in rs * 2) ts (omega (arith, i.few_terms)) i.terms_room i.rest

  pub instance-rows : row_table (entries (meaning ts rs)) rs ≡ rs
  instance-rows =
      let few : entries_in rs * 4 ≤ row_room = omega (arith, i.few_objectives, i.few_rows) in
      ap (λ (l : List ℤ). filled row_room l rs)
      (ap (entry_numbers 0) instance-entries
      ∙ table-entries ts rs (entries_in rs) (omega (arith, i.rows_room)) (kind-natural rs) (λ k h. (i.used k h).first) (λ k h. (i.used k h).count))
      ∙ filled-same row_room (entries_in rs * 4) rs few i.rows_room i.unused

  objective-ok : (k : ℕ) → k < objectives_in rs → ObjectiveOk (entry_at ts rs k)
  objective-ok k h = record { kind = ap nat_abs (objective-kind rs k h); bound = i.no_bound k h }

  row_ok : (k : ℕ) → objectives_in rs ≤ k → k < entries_in rs → RowOk (entry_at ts rs k)
  row_ok k l h = record { kind_low = (row-kind rs k l h).low; kind_high = (row-kind rs k l h).high; bound = (i.used k h).bound }

  pub instance-within : Within (meaning ts rs)
  instance-within =
      let o : length (meaning ts rs).objectives ≡ objectives_in rs = tabulate-length (entry_at ts rs) 0 (objectives_in rs) in
      let r : length (meaning ts rs).rows ≡ rows_in rs = tabulate-length (entry_at ts rs) (objectives_in rs) (rows_in rs) in
      let t : length (all_terms (entries (meaning ts rs))) ≡ terms_in rs = ap length instance-all_terms ∙ tabulate-length (term_at ts) 0 (terms_in rs) in
      record {
        some_objective = omega (arith, o, i.some_objective);
        few_objectives = omega (arith, o, i.few_objectives);
        few_rows = omega (arith, r, i.few_rows);
        few_terms = omega (arith, t, i.few_terms);
        objectives = tabulate-each (entry_at ts rs) ObjectiveOk 0 (objectives_in rs) (λ k h. objective-ok (0 + k) (omega arith));
        rows = tabulate-each (entry_at ts rs) RowOk (objectives_in rs) (rows_in rs) (λ k h. row_ok (objectives_in rs + k) (omega arith) (omega arith));
        terms = subst (λ (l : List Term). (u : Term) → Memᴰ u l → TermOk u) (sym instance-all_terms) (terms-ok i 0 (terms_in rs) (omega arith));
        variables = ap highest (sym instance-all_terms);
      }
