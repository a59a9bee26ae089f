-- What is read from tables that start with the numbers of given terms and entries: those terms and those entries.
use mathlib.Core.Path.{◌≡◌, refl, sym, ap, ◌∙◌, subst}
use mathlib.Core.List.{List, [], ◌∷◌, ◌++◌, append_assoc}
use Prim.Native.Nat.{ℕ, zero, suc, ◌+◌, ◌-◌, ◌*◌, ◌≤◌, ◌<◌}
use native.Mathlib.Omega.{arith}
use lib.IntN.{ℤ, pos, nat_abs}
use lib.ListN.{length, get_or, take, drop, replicate, length-append, length-replicate, get_or-replicate, get_or-append}
use lib.Seq.{take-suc, split_at, length-take-le, get_or-append-add}
use Rattle.instance.specs.Terms.{Term}
use Rattle.instance.specs.Rows.{Entry}
use Rattle.instance.specs.Tables.{term_at, kind_at, first_at, count_at, bound_at, terms_before, ZeroFrom}
use Rattle.instance.specs.Meaning.{terms_at, entry_at}
use Rattle.instance.specs.Layout.{term_numbers, all_terms, entry_numbers, filled}
use Rattle.instance.proofs.ListLaws.{tabulate-list}
use Rattle.instance.proofs.NumberLaws.{all_terms-append, entry_numbers-append, entry_numbers-length}

-- ---- filled
-- A filled table has its room, and zeros after the numbers up to the room.
pub filled-room : (room : ℕ) (xs found : List ℤ) → room ≤ length (filled room xs found)
filled-room room xs found =
    let d = room - length xs in
    omega
    (arith, length-append xs (replicate d (pos 0) ++ drop room found), length-append (replicate d (pos 0)) (drop room found), length-replicate d (pos 0))

pub filled_zero : (room n : ℕ) (xs found : List ℤ) → length xs ≡ n → ZeroFrom (filled room xs found) n room
filled_zero room n xs found e i h l =
    let d = room - length xs in
    let j = i - length xs in
    let s : i ≡ length xs + j = omega arith in
    let b : j < length (replicate d (pos 0)) = omega (arith, length-replicate d (pos 0)) in
    ap (λ (k : ℕ). get_or (filled room xs found) k (pos 0)) s
    ∙ (get_or-append-add xs (replicate d (pos 0) ++ drop room found) j (pos 0)
    ∙ (get_or-append (replicate d (pos 0)) (drop room found) (pos 0) j b ∙ get_or-replicate d j (pos 0) (pos 0) (omega arith)))

-- ---- terms
abbrev no_term : Term
no_term = record { coef = pos 0; lit = pos 0 }

abbrev pair : ℤ → ℤ → Term
pair c v = record { coef = c; lit = v }

pub term-read : (xs : List Term) (more : List ℤ) (k : ℕ) → k < length xs → term_at (term_numbers xs ++ more) k ≡ get_or xs k no_term
unfolding term_numbers
term-read [] more k h = absurd (omega arith)
term-read (x ∷ xs) more zero h = refl
term-read (x ∷ xs) more (suc k) h =
    let l = term_numbers (x ∷ xs) ++ more in
    let e : suc k * 2 ≡ suc (suc (k * 2)) = omega arith in
    let f : suc k * 2 + 1 ≡ suc (suc (k * 2 + 1)) = omega arith in
    ap (λ (j : ℕ). pair (get_or l j (pos 0)) (get_or l (suc k * 2 + 1) (pos 0))) e
    ∙ (ap (λ (j : ℕ). pair (get_or l (suc (suc (k * 2))) (pos 0)) (get_or l j (pos 0))) f ∙ term-read xs more k (omega arith))

-- The terms after others.
pub terms-read : (us vs ws : List Term) (more : List ℤ) → terms_at (term_numbers (us ++ (vs ++ ws)) ++ more) (length us) (length vs) ≡ vs
terms-read us vs ws more =
    tabulate-list (term_at (term_numbers (us ++ (vs ++ ws)) ++ more)) (length us) no_term vs
    (λ k h.
    let b : length us + k < length (us ++ (vs ++ ws)) = omega (arith, length-append us (vs ++ ws), length-append vs ws) in
    term-read (us ++ (vs ++ ws)) more (length us + k) b ∙ (get_or-append-add us (vs ++ ws) k no_term ∙ get_or-append vs ws no_term k h))

-- ---- entries
-- Entry k has the four numbers of e, whose first term's index is f.
pub record Laid (rs : List ℤ) (k f : ℕ) (e : Entry) : Type 0 where
  pub kind : kind_at rs k ≡ pos e.kind
  pub first : first_at rs k ≡ pos f
  pub count : count_at rs k ≡ pos (length e.terms)
  pub bound : bound_at rs k ≡ e.bound

laid : (xs ys : List Entry) (e : Entry) (more : List ℤ) → Laid (entry_numbers 0 (xs ++ (e ∷ ys)) ++ more) (length xs) (length (all_terms xs)) e
unfolding entry_numbers
laid xs ys e more = record {
  kind = at (length xs * 4) 0 (omega (arith, entry_numbers-length 0 xs));
  first = at (length xs * 4 + 1) 1 (omega (arith, entry_numbers-length 0 xs)) ∙ ap pos (omega arith);
  count = at (length xs * 4 + 2) 2 (omega (arith, entry_numbers-length 0 xs));
  bound = at (length xs * 4 + 3) 3 (omega (arith, entry_numbers-length 0 xs));
}
  where
    at : (i j : ℕ) → i ≡ length (entry_numbers 0 xs) + j → get_or (entry_numbers 0 (xs ++ (e ∷ ys)) ++ more) i (pos 0) ≡ get_or (entry_numbers (0 + length (all_terms xs)) (e ∷ ys) ++ more) j (pos 0)
    at i j s =
        ap (λ (l : List ℤ). get_or (l ++ more) i (pos 0)) (entry_numbers-append 0 xs (e ∷ ys))
        ∙ (ap (λ (l : List ℤ). get_or l i (pos 0)) (append_assoc (entry_numbers 0 xs) (entry_numbers (0 + length (all_terms xs)) (e ∷ ys)) more)
        ∙ (ap (λ (k : ℕ). get_or (entry_numbers 0 xs ++ (entry_numbers (0 + length (all_terms xs)) (e ∷ ys) ++ more)) k (pos 0)) s
        ∙ get_or-append-add (entry_numbers 0 xs) (entry_numbers (0 + length (all_terms xs)) (e ∷ ys) ++ more) j (pos 0)))

abbrev entry : ℕ → List Term → ℤ → Entry
entry n xs b = record { kind = n; terms = xs; bound = b }

abbrev pub no_entry : Entry
no_entry = entry 0 [] (pos 0)

module _ (es : List Entry) (more : List ℤ) where
  pub laid-at : (k : ℕ) → k < length es → Laid (entry_numbers 0 es ++ more) k (length (all_terms (take k es))) (get_or es k no_entry)
  laid-at k h =
      let e = get_or es k no_entry in
      let f = length (all_terms (take k es)) in
      subst (λ (l : List Entry). Laid (entry_numbers 0 l ++ more) k f e) (sym (split_at es k no_entry h))
      (subst (λ (j : ℕ). Laid (entry_numbers 0 (take k es ++ (e ∷ drop (suc k) es)) ++ more) j f e) (length-take-le k es (omega arith))
      (laid (take k es) (drop (suc k) es) e more))

  -- The terms before entry k are those of the entries before it.
  pub terms_before-read : (k : ℕ) → k ≤ length es → terms_before (entry_numbers 0 es ++ more) k ≡ length (all_terms (take k es))
  unfolding terms_before all_terms
  terms_before-read zero h = refl
  terms_before-read (suc k) h =
      let e = get_or es k no_entry in
      let r : terms_before (entry_numbers 0 es ++ more) k ≡ length (all_terms (take k es)) = terms_before-read k (omega arith) in
      let c : nat_abs (count_at (entry_numbers 0 es ++ more) k) ≡ length e.terms = ap nat_abs (laid-at k (omega arith)).count in
      let t : length (all_terms (take (suc k) es)) ≡ length (all_terms (take k es) ++ (e.terms ++ [])) =
      ap length (ap all_terms (take-suc es k no_entry (omega arith)) ∙ all_terms-append (take k es) (e ∷ []))
      in
      omega (arith, length-append (all_terms (take k es)) (e.terms ++ []), length-append e.terms [])

  -- Entry k, with its terms.
  pub entry_read : (others : List ℤ) (k : ℕ) → k < length es → entry_at (term_numbers (all_terms es) ++ others) (entry_numbers 0 es ++ more) k ≡ get_or es k no_entry
  unfolding all_terms
  entry_read others k h =
      let e = get_or es k no_entry in
      let l = laid-at k h in
      let rs = entry_numbers 0 es ++ more in
      let ts = term_numbers (all_terms es) ++ others in
      let us = all_terms (take k es) in
      let ws = all_terms (drop (suc k) es) in
      let all : all_terms es ≡ us ++ (e.terms ++ ws) = ap all_terms (split_at es k no_entry h) ∙ all_terms-append (take k es) (e ∷ drop (suc k) es) in
      let t : terms_at ts (nat_abs (first_at rs k)) (nat_abs (count_at rs k)) ≡ e.terms =
      ap (λ (z : ℤ). terms_at ts (nat_abs z) (nat_abs (count_at rs k))) l.first
      ∙ (ap (λ (z : ℤ). terms_at ts (length us) (nat_abs z)) l.count
      ∙ (ap (λ (xs : List Term). terms_at (term_numbers xs ++ others) (length us) (length e.terms)) all ∙ terms-read us e.terms ws others))
      in
      ap (λ (z : ℤ). entry (nat_abs z) (terms_at ts (nat_abs (first_at rs k)) (nat_abs (count_at rs k))) (bound_at rs k)) l.kind
      ∙ (ap (λ (xs : List Term). entry e.kind xs (bound_at rs k)) t ∙ ap (entry e.kind e.terms) l.bound)
