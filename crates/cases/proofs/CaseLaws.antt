-- Document 01, 'Worked instances': each case of the table holds. One claim, `all-cases`. A case that passes the test holds (`passes-holds`), and
-- all pass (TableLaws). Assumes nothing.
--
-- Why a case that passes holds: reading answers what its definition says of the text, and leaves tables that are an instance and mean it. The
-- front that was computed by trying every assignment is the front, and there is one, so the list that listing's contract speaks of is the one
-- of the table. The file of T's front is determined, and its bytes are those of case P11 of front files.
use mathlib.Core.Path.{◌≡◌, refl, sym, ap, ◌∙◌, subst}
use mathlib.Core.Logic.{⊎_elim}
use mathlib.Core.Bool.{true, false, not, ◌&&◌}
use mathlib.Core.List.Memᴰ
use mathlib.Core.List.{List, [], ◌∷◌, Memᴰ}
use Prim.Native.Nat.{ℕ, ◌≤◌}
use native.Mathlib.Omega.{arith}
use borrow.Author.Tests.{eqb-true, leb-true, ltb-true, not-true}
use lib.Dec.{eqb, leb, ltb}
use lib.IntN.{ℤ}
use lib.ListN.{length, take, drop}
use Rattle.instance.specs.Rows.{Entry}
use Rattle.instance.specs.Limits.{term_room, row_room}
use Rattle.instance.specs.Tables.{objectives_in, IsInstance}
use Rattle.instance.specs.Meaning.{Instance, entry_at, meaning}
use Rattle.instance.proofs.ListLaws.{tabulate-length}
use Rattle.reading.specs.Reading.{Outcome, accepted, refused, read_bytes, instance_of}
use Rattle.reading.specs.Answers.{read_number, read_value, answer_of, is_long, read_terms, read_rows}
use Rattle.text.proofs.AnswerLaws.{answer-said, done-is, done-meaning, room-enough}
use Rattle.points.specs.Fronts.{Candidate}
use Rattle.points.specs.Lists.{Proper}
use Rattle.files.specs.Written.{WrittenAs}
use Rattle.front.specs.Listing.{FrontOf, room}
use Rattle.front.specs.Computed.{front_of}
use Rattle.front.proofs.FrontLaws.{front-of}
use Rattle.front.proofs.ProperLaws.{runs-proper}
use Rattle.cases.specs.Rules.{Expected, refuses, lists, cuts, files, Reads, Listings, Files, HoldsAs}
use Rattle.cases.specs.Cases.{Case, Holds, table, points_t}
use Rattle.cases.proofs.TestLaws.{and_both, no-clash, same_points, same_points-same, same_numbers, same_numbers-same, is_whole, is_part, checks_t, is_file_t, passes_by, passes, all_pass}
use Rattle.cases.proofs.ListedLaws.{listed-whole, listed-part, Tells}
use Rattle.cases.proofs.FileLaws.{as-T, file-T}
use Rattle.cases.proofs.TableLaws.{table-passes}

module _ (text : List ℕ) (short : is_long text ≡ false) where
  -- ---- Reads
  reads_as : {o : Outcome} → read_bytes text ≡ o → Reads text (read_number (answer_of o)) (read_value (answer_of o))
  reads_as e ts rs h k = let a = answer-said text ts rs (room-enough ts rs h k) short ∙ ap answer_of e in (ap read_number a, ap read_value a)

  module _ {os es : List Entry} (e : read_bytes text ≡ accepted os es) where
    abbrev i : Instance
    i = instance_of os es

    -- The tables that reading leaves are an instance, and its front is the one by enumeration.
    module _ (ts rs : List ℤ) (h : term_room ≤ length ts) (k : row_room ≤ length rs) where
      abbrev ts' : List ℤ
      ts' = read_terms text ts rs

      abbrev rs' : List ℤ
      rs' = read_rows text ts rs

      is : IsInstance ts' rs'
      is = done-is text ts rs (room-enough ts rs h k) short e

      means : meaning ts' rs' ≡ i
      means = done-meaning text ts rs (room-enough ts rs h k) short e

      front : FrontOf (meaning ts' rs') (front_of i)
      front = subst (λ (j : Instance). FrontOf j (front_of i)) (sym means) (front-of i)

      objectives-are : objectives_in rs' ≡ length os
      objectives-are = sym (tabulate-length (entry_at ts' rs') 0 (objectives_in rs')) ∙ ap (λ (j : Instance). length j.objectives) means

    -- ---- Listings
    listings-whole : (most : ℕ) (xs : List Candidate) → is_whole most (front_of i) xs ≡ true → Listings text most 0 xs
    listings-whole most xs t ts rs h k vs ms m vs' ms' r l =
        let p = and_both (same_points (front_of i) xs) (leb (length (front_of i)) most) t in
        subst (Tells (is ts rs h k) (front_of i) (front ts rs h k) vs ms vs' ms' r 0) (same_points-same (front_of i) xs p.0)
        (listed-whole (is ts rs h k) (front_of i) (front ts rs h k) vs ms vs' ms' (omega (arith, m, leb-true (length (front_of i)) most p.1)) r l)

    listings-part : (most : ℕ) (xs : List Candidate) → is_part most (front_of i) xs ≡ true → Listings text most 11 xs
    listings-part most xs t ts rs h k vs ms m vs' ms' r l =
        let p = and_both (same_points (take most (front_of i)) xs) (ltb most (length (front_of i))) t in
        let same : take (room vs ms) (front_of i) ≡ xs = ap (λ (j : ℕ). take j (front_of i)) m ∙ same_points-same (take most (front_of i)) xs p.0 in
        subst (Tells (is ts rs h k) (front_of i) (front ts rs h k) vs ms vs' ms' r 11) same
        (listed-part (is ts rs h k) (front_of i) (front ts rs h k) vs ms vs' ms' (omega (arith, m, ltb-true most (length (front_of i)) p.1)) r l)

    -- ---- Files

    -- The file of T's points: the list is proper, as it is the front of an instance.
    files-T : (most : ℕ) → length os ≡ 2 → i.variables ≡ 3 → is_whole most (front_of i) points_t ≡ true → Files text most 1024 checks_t
    files-T most o n t ts rs h k vs ms m vs' ms' r l found left enough small w u =
        let p = listings-whole most points_t t ts rs h k vs ms m vs' ms' r l in
        let f : FrontOf (meaning (ts' ts rs h k) (rs' ts rs h k)) points_t =
        subst (FrontOf (meaning (ts' ts rs h k) (rs' ts rs h k))) (same_points-same (front_of i) points_t (and_both (same_points (front_of i) points_t) (leb (length (front_of i)) most) t).0) (front ts rs h k)
        in
        let proper =
        as-T Proper vs ms (objectives-are ts rs h k ∙ o) (ap (λ (j : Instance). j.variables) (means ts rs h k) ∙ n) refl refl refl
        (runs-proper (is ts rs h k) points_t f.members vs ms f.rising f.apart (omega arith))
        in
        file-T (drop 8 vs) (drop 2 ms) proper found left enough small w
        (as-T (λ a b c vs ms. WrittenAs a b c vs ms found left w) vs ms (objectives-are ts rs h k ∙ o) ((reads_as e ts rs h k).1 ∙ n) p.1 p.2 p.3 u)

    files-by : (most bytes : ℕ) (checks : List ℕ) → is_file_t most os i.variables (front_of i) bytes checks ≡ true → Files text most bytes checks
    files-by most bytes checks t =
        let p = and_both (eqb (length os) 2 && eqb i.variables 3) (is_whole most (front_of i) points_t && (eqb bytes 1024 && same_numbers checks checks_t)) t in
        let a = and_both (eqb (length os) 2) (eqb i.variables 3) p.0 in
        let b = and_both (is_whole most (front_of i) points_t) (eqb bytes 1024 && same_numbers checks checks_t) p.1 in
        let c = and_both (eqb bytes 1024) (same_numbers checks checks_t) b.1 in
        subst (Files text most bytes) (sym (same_numbers-same checks checks_t c.1))
        (subst (λ (k : ℕ). Files text most k checks_t) (sym (eqb-true bytes 1024 c.0)) (files-T most (eqb-true (length os) 2 a.0) (eqb-true i.variables 3 a.1) b.0))

  -- ---- a text that passes the test holds what is expected
  holds_by : (most : ℕ) (x : Expected) (o : Outcome) → read_bytes text ≡ o → passes_by most x o ≡ true → HoldsAs text most x
  holds_by most (refuses k s) (accepted os rs) e t = no-clash t
  holds_by most (refuses k s) (refused k' s') e t =
      let a = answer_of (refused k' s') in
      let p = and_both (eqb (read_number a) k) (eqb (read_value a) s) t in
      λ ts rs h l. let r = reads_as e ts rs h l in (r.0 ∙ eqb-true (read_number a) k p.0, r.1 ∙ eqb-true (read_value a) s p.1)
  holds_by most (lists n xs) (accepted os rs) e t =
      let i = instance_of os rs in
      let p = and_both (eqb i.variables n) (is_whole most (front_of i) xs) t in
      record { reads = subst (Reads text 0) (eqb-true i.variables n p.0) (reads_as e); listings = listings-whole e most xs p.1 }
  holds_by most (lists n xs) (refused k s) e t = no-clash t
  holds_by most (cuts n xs) (accepted os rs) e t =
      let i = instance_of os rs in
      let p = and_both (eqb i.variables n) (is_part most (front_of i) xs) t in
      record { reads = subst (Reads text 0) (eqb-true i.variables n p.0) (reads_as e); listings = listings-part e most xs p.1 }
  holds_by most (cuts n xs) (refused k s) e t = no-clash t
  holds_by most (files bytes checks) (accepted os rs) e t = files-by e most bytes checks t
  holds_by most (files bytes checks) (refused k s) e t = no-clash t

-- ---- Holds

pub passes-holds : (c : Case) → passes c ≡ true → Holds c
passes-holds c t =
    let p = and_both (not (is_long c.text)) (passes_by c.most c.expected (read_bytes c.text)) t in
    holds_by c.text (not-true (is_long c.text) p.0) c.most c.expected (read_bytes c.text) refl p.1

all_hold : (cs : List Case) → all_pass cs ≡ true → (c : Case) → Memᴰ c cs → Holds c
unfolding all_pass
all_hold [] t c m = absurd (Memᴰ.not-nil m)
all_hold (d ∷ ds) t c m =
    let p = and_both (passes d) (all_pass ds) t in
    ⊎_elim (λ e. subst Holds (sym e) (passes-holds d p.0)) (λ n. all_hold ds p.1 c n) (Memᴰ.cases_cons m)

-- Each case of the table, P1 to P11, holds.
pub all-cases : (c : Case) → Memᴰ c table → Holds c
all-cases c m = all_hold table table-passes c m
