-- A test that computes whether a case holds: what its text says, by reading's definition, and the front of that, by trying every assignment.
-- Assumes nothing.
use mathlib.Core.Path.{◌≡◌, refl, sym, ap, ap₂, subst}
use mathlib.Core.Bool.{Bool, true, false, not, ◌&&◌}
use mathlib.Core.List.{List, [], ◌∷◌}
use Prim.Native.Nat.{ℕ}
use borrow.Author.Tests.{eqb-true}
use lib.Dec.{T, eqb, leb, ltb}
use lib.IntN.{ℤ, pos, negsuc}
use lib.ListN.{length, take}
use Rattle.instance.specs.Rows.{Entry}
use Rattle.reading.specs.Reading.{Outcome, accepted, refused, read_bytes, instance_of}
use Rattle.reading.specs.Answers.{read_number, read_value, answer_of, is_long}
use Rattle.points.specs.Fronts.{Candidate}
use Rattle.points.proofs.FrontLaws.{candidate-same}
use Rattle.front.specs.Computed.{front_of}
use Rattle.cases.specs.Rules.{Expected, refuses, lists, cuts, files}
use Rattle.cases.specs.Cases.{Case, points_t}

-- ---- _&&_

pub and_both : (a b : Bool) → (a && b) ≡ true → (a ≡ true) × (b ≡ true)
and_both true b e = (refl, e)
and_both false b e = absurd (subst T (sym e) tt)

-- ---- same_all: two lists have the same entries, by a test of entries

unfoldable pub same_all : {A : Type 0} → (A → A → Bool) → List A → List A → Bool
same_all same [] [] = true
same_all same [] (y ∷ ys) = false
same_all same (x ∷ xs) [] = false
same_all same (x ∷ xs) (y ∷ ys) = same x y && same_all same xs ys

pub no-clash : {A : Type 0} → false ≡ true → A
no-clash e = absurd (subst T (sym e) tt)

pub same_all-same : {A : Type 0} (same : A → A → Bool) → ((x y : A) → same x y ≡ true → x ≡ y) → (xs ys : List A) → same_all same xs ys ≡ true → xs ≡ ys
unfolding same_all
same_all-same same h [] [] e = refl
same_all-same same h [] (y ∷ ys) e = no-clash e
same_all-same same h (x ∷ xs) [] e = no-clash e
same_all-same same h (x ∷ xs) (y ∷ ys) e =
    let p = and_both (same x y) (same_all same xs ys) e in
    ap₂ (λ z zs. z ∷ zs) (h x y p.0) (same_all-same same h xs ys p.1)

-- ---- tests of entries

abbrev same_int : ℤ → ℤ → Bool
same_int (pos a) (pos b) = eqb a b
same_int (pos a) (negsuc b) = false
same_int (negsuc a) (pos b) = false
same_int (negsuc a) (negsuc b) = eqb a b

same_int-same : (x y : ℤ) → same_int x y ≡ true → x ≡ y
same_int-same (pos a) (pos b) e = ap pos (eqb-true a b e)
same_int-same (pos a) (negsuc b) e = no-clash e
same_int-same (negsuc a) (pos b) e = no-clash e
same_int-same (negsuc a) (negsuc b) e = ap negsuc (eqb-true a b e)

abbrev same_point : Candidate → Candidate → Bool
same_point c d = same_all same_int c.vector d.vector && eqb c.model d.model

same_point-same : (c d : Candidate) → same_point c d ≡ true → c ≡ d
same_point-same c d e =
    let p = and_both (same_all same_int c.vector d.vector) (eqb c.model d.model) e in
    candidate-same (same_all-same same_int same_int-same c.vector d.vector p.0) (eqb-true c.model d.model p.1)

abbrev pub same_points : List Candidate → List Candidate → Bool
same_points xs ys = same_all same_point xs ys

pub same_points-same : (xs ys : List Candidate) → same_points xs ys ≡ true → xs ≡ ys
same_points-same = same_all-same same_point same_point-same

abbrev pub same_numbers : List ℕ → List ℕ → Bool
same_numbers xs ys = same_all eqb xs ys

pub same_numbers-same : (xs ys : List ℕ) → same_numbers xs ys ≡ true → xs ≡ ys
same_numbers-same = same_all-same eqb (λ x y e. eqb-true x y e)

-- ---- passes

-- The front fits the room for `most` points and is xs; or it is larger, and begins with xs.
abbrev pub is_whole : ℕ → List Candidate → List Candidate → Bool
is_whole most front xs = same_points front xs && leb (length front) most

abbrev pub is_part : ℕ → List Candidate → List Candidate → Bool
is_part most front xs = same_points (take most front) xs && ltb most (length front)

-- The checks of the file of T.
abbrev pub checks_t : List ℕ
checks_t = 65526 ∷ 65512 ∷ []

-- A file's bytes and checks are compared with what is proved of the file of T.
abbrev pub is_file_t : ℕ → List Entry → ℕ → List Candidate → ℕ → List ℕ → Bool
is_file_t most os n front bytes checks = (eqb (length os) 2 && eqb n 3) && (is_whole most front points_t && (eqb bytes 1024 && same_numbers checks checks_t))

-- What is expected of a text that says os and rs.
abbrev pub passes_as : ℕ → Expected → List Entry → List Entry → Bool
passes_as most (refuses k s) os rs = false
passes_as most (lists n xs) os rs = eqb (instance_of os rs).variables n && is_whole most (front_of (instance_of os rs)) xs
passes_as most (cuts n xs) os rs = eqb (instance_of os rs).variables n && is_part most (front_of (instance_of os rs)) xs
passes_as most (files bytes checks) os rs = is_file_t most os (instance_of os rs).variables (front_of (instance_of os rs)) bytes checks

-- What is expected of a text that is refused with number k at statement s.
abbrev pub passes_refused : Expected → ℕ → ℕ → Bool
passes_refused (refuses k s) k' s' = eqb (read_number (answer_of (refused k' s'))) k && eqb (read_value (answer_of (refused k' s'))) s
passes_refused (lists n xs) k' s' = false
passes_refused (cuts n xs) k' s' = false
passes_refused (files bytes checks) k' s' = false

abbrev pub passes_by : ℕ → Expected → Outcome → Bool
passes_by most e (accepted os rs) = passes_as most e os rs
passes_by most e (refused k s) = passes_refused e k s

abbrev pub passes : Case → Bool
passes c = not (is_long c.text) && passes_by c.most c.expected (read_bytes c.text)

unfoldable pub all_pass : List Case → Bool
all_pass [] = true
all_pass (c ∷ cs) = passes c && all_pass cs
