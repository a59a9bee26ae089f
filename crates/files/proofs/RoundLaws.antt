-- There and back: reading what writing wrote gives the same list, and writing what reading accepted gives the same bytes.
use mathlib.Core.Path.{◌≡◌, refl, sym, ap, subst, ◌∙◌}
use mathlib.Core.List.{List, ◌++◌}
use Prim.Native.Nat.{ℕ, ◌+◌, ◌*◌, ◌≤◌, ◌<◌}
use native.Mathlib.Omega.{arith}
use lib.IntN.{ℤ, pos}
use lib.ListN.{length, get_or, take, drop, get_or-append}
use lib.Seq.{length-take-le, ext_get_or, get_or-take}
use Rattle.instance.proofs.ListLaws.{tabulate-length, tabulate-get_or}
use Rattle.points.specs.Lists.{Proper}
use Rattle.points.proofs.ListLaws.{proper-same, proper-append}
use Rattle.blocks.proofs.ByteLaws.{Bytes}
use Rattle.files.specs.Layout.{block_at, blocks_in, blocks_for, objectives_of, variables_of, value_in, model_in, values_in, models_in, BlockFits, FileOf}
use Rattle.files.specs.Written.{bytes_for, WrittenAs}
use Rattle.files.specs.Taken.{ReadAs, ReadAll, Answer, answer_of, Sound, ProperList, Room, points}
use Rattle.files.specs.declared.read.FileHead.{FileHead}
use Rattle.files.specs.declared.errors.WriteFileError.{WriteFileError}
use Rattle.files.specs.declared.errors.WriteFileError.TheVariants.{NotProper as Improper, ShortOutput as NoRoom}
use Rattle.files.specs.declared.errors.ReadFileError.{ReadFileError}
use Rattle.files.specs.declared.errors.ReadFileError.TheVariants.{BadLength, BadCheck, BadLayout, NotProper, ShortOutput}
use Rattle.std.specs.Prelude.{Result, Ok, Err}
use Rattle.files.proofs.FileLaws.{file-cut, bytes-unique}
use Rattle.files.proofs.ReadLaws.{sound-total}

-- The values and the assignments in a file, by index.
module _ (f : List ℕ) (p : ℕ) where
  pub values-at : (i : ℕ) → i < p * 4 → get_or (values_in f p) i (pos 0) ≡ value_in f i
  values-at i h = let e : 0 + i ≡ i = omega arith in tabulate-get_or (value_in f) 0 (p * 4) i (pos 0) h ∙ ap (value_in f) e

  pub models-at : (k : ℕ) → k < p → get_or (models_in f p) k 0 ≡ model_in f k
  models-at k h = let e : 0 + k ≡ k = omega arith in tabulate-get_or (model_in f) 0 p k 0 h ∙ ap (model_in f) e

-- ---- the file of a proper list is sound, and its list is proper
module _ {o n p : ℕ} {vs : List ℤ} {ms : List ℕ} {f : List ℕ} (F : FileOf o n p vs ms f) (proper : Proper o n p vs ms) (whole : length f ≡ bytes_for p) where
  blocks : blocks_for p ≡ blocks_in f
  blocks = omega arith

  pub file-sound : Sound f
  file-sound = record {
    sized = record { some = omega arith; whole = omega arith; most = omega (arith, proper.few_points) };
    checked = λ b h. F.checked b (omega arith);
    laid = λ b h. subst (λ (m : ℕ). BlockFits f m b) blocks (F.laid b (omega arith));
  }

  pub file-proper : ProperList f
  file-proper =
      subst (λ (x : ℕ). Proper x (variables_of (block_at f 0)) (points f) (values_in f (points f)) (models_in f (points f))) (sym F.head_objectives)
      (subst (λ (x : ℕ). Proper o x (points f) (values_in f (points f)) (models_in f (points f))) (sym F.head_variables)
      (subst (λ (x : ℕ). Proper o n x (values_in f x) (models_in f x)) (sym F.head_points)
      (proper-same vs (values_in f p) (λ i h. values-at f p i h ∙ F.values i h) ms (models_in f p) (λ k h. models-at f p k h ∙ F.models k h)
      (omega (arith, tabulate-length (value_in f) 0 (p * 4))) (omega (arith, tabulate-length (model_in f) 0 p)) proper)))

-- What reading answers of such a file: done, with the list's numbers.
abbrev done : ℕ → ℕ → ℕ → Answer
done o n p = record { number = 0; block = 0; objectives = o; variables = n; points = p }

-- The answer is done with the three numbers, and the runs begin with the points of the list.
pub record Same (o n p : ℕ) (vs : List ℤ) (ms : List ℕ) (a : Answer) (us : List ℤ) (os : List ℕ) : Type 0 where
  pub answer : a ≡ done o n p
  pub values : (i : ℕ) → i < p * 4 → get_or us i (pos 0) ≡ get_or vs i (pos 0)
  pub models : (k : ℕ) → k < p → get_or os k 0 ≡ get_or ms k 0

module _ {o n p : ℕ} {vs : List ℤ} {ms : List ℕ} {f : List ℕ} (F : FileOf o n p vs ms f) (proper : Proper o n p vs ms) (whole : length f ≡ bytes_for p)
    (us us' : List ℤ) (os os' : List ℕ) (room : p * 4 ≤ length us) (room' : p ≤ length os) where
  rooms : Room f us os
  rooms = record { values = omega (arith, F.head_points); models = omega (arith, F.head_points) }

  same : (a : Answer) → ReadAll f us os us' os' a → Same o n p vs ms a us' os'
  same a r = record {
    answer =
        r.answer
        ∙ (ap (λ (x : ℕ). done x (variables_of (block_at f 0)) (points f)) F.head_objectives
        ∙ (ap (λ (x : ℕ). done o x (points f)) F.head_variables ∙ ap (done o n) F.head_points));
    values = λ i h.
        ap (λ (l : List ℤ). get_or l i (pos 0)) (r.values ∙ ap (λ (x : ℕ). values_in f x ++ drop (x * 4) us) F.head_points)
        ∙ (get_or-append (values_in f p) (drop (p * 4) us) (pos 0) i (omega (arith, tabulate-length (value_in f) 0 (p * 4))) ∙ (values-at f p i h ∙ F.values i h));
    models = λ k h.
        ap (λ (l : List ℕ). get_or l k 0) (r.models ∙ ap (λ (x : ℕ). models_in f x ++ drop x os) F.head_points)
        ∙ (get_or-append (models_in f p) (drop p os) 0 k (omega (arith, tabulate-length (model_in f) 0 p)) ∙ (models-at f p k h ∙ F.models k h));
  }

  pub read-file-of : (r : Result FileHead ReadFileError) → ReadAs f us os us' os' r → Same o n p vs ms (answer_of r) us' os'
  read-file-of (Ok h) x = same (answer_of (Ok h)) x
  read-file-of (Err BadLength) x = absurd (x.wrong (file-sound F proper whole).sized)
  read-file-of (Err (BadCheck b)) x = absurd (x.lowest.fails ((file-sound F proper whole).checked b x.lowest.inside))
  read-file-of (Err (BadLayout b)) x = absurd (x.lowest.fails ((file-sound F proper whole).laid b x.lowest.inside))
  read-file-of (Err NotProper) x = absurd (x.improper (file-proper F proper whole))
  read-file-of (Err ShortOutput) x = absurd (x.short rooms)

-- Reading the bytes that writing wrote gives the same objectives, n, points, values and assignments.
pub read-written : {o n p : ℕ} {vs : List ℤ} {ms : List ℕ} {found left : List ℕ} {k : ℕ} (us us' : List ℤ) (os os' : List ℕ) (r : Result FileHead ReadFileError)
    → WrittenAs o n p vs ms found left (Ok k) → ReadAs (take k left) us os us' os' r → p * 4 ≤ length us → p ≤ length os → Same o n p vs ms (answer_of r) us' os'
read-written {left = left} {k = k} us us' os os' r w x room room' =
    let fits : k ≤ length left = omega (arith, w.count, w.room, w.whole) in
    read-file-of (file-cut left k w.count fits w.file) w.proper (length-take-le k left fits ∙ w.count) us us' os os' room room' r x

-- ---- writing what reading accepted
-- What reading left is the list of the file.
module _ {f : List ℕ} {us us' : List ℤ} {os os' : List ℕ} {a : Answer} (r : ReadAll f us os us' os' a) where
  abbrev q : ℕ
  q = points f

  lv : length (values_in f (points f)) ≡ points f * 4
  lv = tabulate-length (value_in f) 0 (points f * 4)

  lm : length (models_in f (points f)) ≡ points f
  lm = tabulate-length (model_in f) 0 (points f)

  pub taken-proper : Proper (objectives_of (block_at f 0)) (variables_of (block_at f 0)) (points f) us' os'
  taken-proper =
      subst (λ (l : List ℤ). Proper (objectives_of (block_at f 0)) (variables_of (block_at f 0)) (points f) l os') (sym r.values)
      (subst (λ (l : List ℕ). Proper (objectives_of (block_at f 0)) (variables_of (block_at f 0)) (points f) (values_in f (points f) ++ drop (points f * 4) us) l) (sym r.models)
      (proper-append (values_in f (points f)) (drop (points f * 4) us) (models_in f (points f)) (drop (points f) os) lv lm r.proper))

  pub taken-file : FileOf (objectives_of (block_at f 0)) (variables_of (block_at f 0)) (points f) us' os' f
  taken-file = record {
    checked = λ b h. r.sound.checked b (omega (arith, sound-total r.sound));
    laid = λ b h. subst (λ (m : ℕ). BlockFits f m b) (sym (sound-total r.sound)) (r.sound.laid b (omega (arith, sound-total r.sound)));
    head_objectives = refl;
    head_variables = refl;
    head_points = refl;
    values = λ i h.
        sym (values-at f (points f) i h)
        ∙ (sym (get_or-append (values_in f (points f)) (drop (points f * 4) us) (pos 0) i (omega (arith, lv))) ∙ ap (λ (l : List ℤ). get_or l i (pos 0)) (sym r.values));
    models = λ k h.
        sym (models-at f (points f) k h)
        ∙ (sym (get_or-append (models_in f (points f)) (drop (points f) os) 0 k (omega (arith, lm))) ∙ ap (λ (l : List ℕ). get_or l k 0) (sym r.models));
  }

  pub taken-length : bytes_for (points f) ≡ length f
  taken-length = omega (arith, sound-total r.sound, r.sound.sized.whole)

-- Writing what reading accepted writes as many bytes as the file has, and they are the file.
module _ {f : List ℕ} {us us' : List ℤ} {os os' : List ℕ} (found left : List ℕ) {h : FileHead} (x : ReadAs f us os us' os' (Ok h)) (hf : Bytes f) (hl : Bytes left)
    (room : length f ≤ length found) where
  heads : (h.objectives ≡ objectives_of (block_at f 0)) × ((h.n ≡ variables_of (block_at f 0)) × (h.points ≡ points f))
  heads = (ap (λ (a : Answer). a.objectives) x.answer, (ap (λ (a : Answer). a.variables) x.answer, ap (λ (a : Answer). a.points) x.answer))

  by-file : (w : Result ℕ WriteFileError) → WrittenAs (objectives_of (block_at f 0)) (variables_of (block_at f 0)) (points f) us' os' found left w → (w ≡ Ok (length f)) × (take (length f) left ≡ f)
  by-file (Ok k) w =
      let e : bytes_for (points f) ≡ length f = taken-length x in
      let fits : length f ≤ length left = omega (arith, w.whole) in (
        ap Ok (w.count ∙ e),
        ext_get_or 0 (take (length f) left) f (length-take-le (length f) left fits)
            (λ i l.
            let m : i < length f = omega (arith, length-take-le (length f) left fits) in
            get_or-take (length f) left i 0 m
            ∙ sym (bytes-unique f left (taken-file x) w.file hf hl (omega arith) (omega arith) i (omega arith))),
      )
  by-file (Err Improper) w = absurd (w.improper (taken-proper x))
  by-file (Err NoRoom) w = absurd (omega (arith, w.short, taken-length x))

  pub write_read : (w : Result ℕ WriteFileError) → WrittenAs h.objectives h.n h.points us' os' found left w → (w ≡ Ok (length f)) × (take (length f) left ≡ f)
  write_read w y =
      by-file w
      (subst (λ (o : ℕ). WrittenAs o (variables_of (block_at f 0)) (points f) us' os' found left w) heads.0
      (subst (λ (n : ℕ). WrittenAs h.objectives n (points f) us' os' found left w) heads.1.0
      (subst (λ (p : ℕ). WrittenAs h.objectives h.n p us' os' found left w) heads.1.1 y)))
