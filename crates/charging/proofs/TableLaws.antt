-- A row's terms and an objective's costs are parts of their lists: what holds of each element of the list holds of the part's.
use mathlib.Core.Path.{◌≡◌, sym, ap, subst, ◌∙◌}
use mathlib.Core.List.{List}
use Prim.Native.Nat.{ℕ, ◌+◌, ◌-◌, ◌*◌, ◌^◌, ◌≤◌, ◌<◌}
use native.Mathlib.Omega.{arith}
use lib.ListN.{length, get_or, drop}
use Rattle.std.specs.Prelude.{slice_range}
use Rattle.std.proofs.lemmas.List.{length-take-le, length-drop, get_or-take, get_or-drop}
use Rattle.charging.specs.declared.rows.Term.{Term}
use Rattle.charging.specs.declared.rows.Cost.{Cost}
use Rattle.charging.specs.declared.rows.Rows.{Rows}
use Rattle.charging.specs.Rows.{miss, span, term, no_term, no_cost, Terms, costs_of}
use Rattle.charging.specs.Meets.{count, terms_of, left}
use Rattle.charging.proofs.SumLaws.{span-same}

pub part_length : {A : Type 0} (xs : List A) (a b : ℕ) → a ≤ b → b ≤ length xs → length (slice_range xs a b) ≡ b - a
part_length xs a b l m = length-take-le (b - a) (drop a xs) (omega (arith, length-drop a xs))

pub part_at : {A : Type 0} (xs : List A) (a b k : ℕ) (d : A) → k < b - a → get_or (slice_range xs a b) k d ≡ get_or xs (a + k) d
part_at xs a b k d l = get_or-take (b - a) (drop a xs) k d l ∙ get_or-drop a xs k d

-- terms of n variables, and a part of them
pub part_terms : (n : ℕ) (terms : List Term) (a b : ℕ) → a ≤ b → b ≤ length terms → Terms n terms → Terms n (slice_range terms a b)
part_terms n terms a b l m t =
    record {
      vars = λ k i. subst (λ (u : Term). u.variable < n) (sym (at k (omega (arith, long)))) (t.vars (a + k) (omega (arith, long)));
      sides = λ k i. subst (λ (u : Term). u.off < 2) (sym (at k (omega (arith, long)))) (t.sides (a + k) (omega (arith, long)));
      small = λ k i. subst (λ (u : Term). u.weight ≤ 2 ^ 34) (sym (at k (omega (arith, long)))) (t.small (a + k) (omega (arith, long)));
      few = t.few;
      short = omega (arith, long, t.short);
    }
  where
    long : length (slice_range terms a b) ≡ b - a
    long = part_length terms a b l m

    at : (k : ℕ) → k < b - a → get_or (slice_range terms a b) k no_term ≡ get_or terms (a + k) no_term
    at k i = part_at terms a b k no_term i

pub row_terms : (rows : Rows) (h : ℕ) → h < count rows → Terms rows.n (terms_of rows h)
row_terms rows h l = part_terms rows.n rows.terms.now _ _ (rows.table.rising h l) (rows.table.inside h l) rows.table.every

-- the left side of a row, by the places of its terms among all
pub left-from : (rows : Rows) (y : ℕ → ℕ) (h : ℕ) → h < count rows
    → left rows y h ≡ span (term rows.terms.now y) (get_or rows.starts.now h 0) (get_or rows.starts.now (h + 1) 0 - get_or rows.starts.now h 0)
left-from rows y h l =
    let a = get_or rows.starts.now h 0 in
    let b = get_or rows.starts.now (h + 1) 0 in
    let e = part_length rows.terms.now a b (rows.table.rising h l) (rows.table.inside h l) in
    ap (λ (m : ℕ). span (term (terms_of rows h) y) 0 m) e
    ∙ sym (span-same (term rows.terms.now y) (term (terms_of rows h) y) a (b - a) (λ k i. ap (λ (t : Term). miss (y t.variable) t.off t.weight) (sym (part_at rows.terms.now a b k no_term i))))

-- what variable v costs by objective i
pub costs-at : (n : ℕ) (costs : List Cost) (i v : ℕ) → v < n → get_or (costs_of n costs i) v no_cost ≡ get_or costs (i * n + v) no_cost
costs-at n costs i v l = part_at costs (i * n) (i * n + n) v no_cost (omega arith)

pub costs-length : (n : ℕ) (costs : List Cost) (i : ℕ) → i * n + n ≤ length costs → length (costs_of n costs i) ≡ n
costs-length n costs i l = let e = part_length costs (i * n) (i * n + n) (omega arith) l in omega arith
