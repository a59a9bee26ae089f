-- What is written of an instance that tables can hold is read as that instance. Assumes nothing.
--
-- The statements are read in the order in which they were written. Each says its entry (StatementLaws). It passes the tests of reading,
-- since all entries together are held (VerdictLaws): its terms and bound are in range, the entries before it leave it room, and no row
-- comes before an objective. So it is added to the entries before it, and the next statement is read. No words are left after the last.
use mathlib.Core.Path.{◌≡◌, refl, sym, ap, ◌∙◌, subst}
use mathlib.Core.Bool.{Bool, not}
use mathlib.Core.List.Memᴰ
use mathlib.Core.List.{List, [], ◌∷◌, ◌++◌, append_assoc, append-nil}
use Prim.Native.Nat.{ℕ, suc, ◌≤◌}
use native.Mathlib.Omega.{arith}
use lib.ListN.{length}
use Rattle.words.specs.declared.Place.TheVariants.{Start}
use Rattle.words.specs.Bytes.{uncommented}
use Rattle.words.specs.Tokens.{Mark, scan, marks_at}
use Rattle.instance.specs.Rows.{Entry}
use Rattle.instance.specs.Meaning.{Instance}
use Rattle.instance.specs.Layout.{Within}
use Rattle.reading.specs.Reading.{accepted, is_first, go_on, add_to, finish, read_marks, read_bytes}
use Rattle.reading.specs.Steps.{rest_after}
use Rattle.reading.proofs.MarksLaws.{marks-entry, marks-none}
use Rattle.writing.specs.Writing.{statements_text, instance_text}
use Rattle.text.proofs.StatementLaws.{Says, statement-objective, statement-row}
use Rattle.text.proofs.HeldLaws.{Held, within_held}
use Rattle.text.proofs.VerdictLaws.{Passed, passed-verdict, first-yes, first-no, objective-passes, row-passes}

-- a statement whose entry passes
entry_read : (s : ℕ) (os rs : List Entry) (e : Entry) {t : Bool} {ms rest : List Mark} → Says ms e rest → Passed os rs e → is_first e ≡ t
    → read_marks s os rs ms ≡ read_marks (suc s) (add_to t os e) (add_to (not t) rs e) rest
entry_read s os rs e {t} {ms} {rest} y p f =
    marks-entry s os rs ms e y.closed y.entry
    ∙ ap (λ (v : ℕ). go_on v s (read_marks (suc s) (add_to (is_first e) os e) (add_to (not (is_first e)) rs e) (rest_after ms))) (passed-verdict os rs e p)
    ∙ ap (λ (b : Bool). read_marks (suc s) (add_to b os e) (add_to (not b) rs e) (rest_after ms)) f
    ∙ ap (read_marks (suc s) (add_to t os e) (add_to (not t) rs e)) y.after

-- the text's end, after some objective
finish-none : (s : ℕ) (os rs : List Entry) → 1 ≤ length os → finish s os rs [] ≡ accepted os rs
finish-none s [] rs h = absurd (omega arith)
finish-none s (o ∷ os) rs h = refl

read-rows : (s : ℕ) (os done todo : List Entry) → 1 ≤ length os → Held os (done ++ todo) → read_marks s os done (marks_at Start (statements_text todo)) ≡ accepted os (done ++ todo)
unfolding statements_text uncommented scan
read-rows s os done [] one h = marks-none s os done [] refl ∙ finish-none s os done one ∙ ap (accepted os) (sym (append-nil done))
read-rows s os done (e ∷ todo) one h =
    let m = h.rows e (Memᴰ.append_right done (Memᴰ.head refl)) in
    entry_read s os done e (statement-row e (statements_text todo) m.0 m.1) (row-passes done todo e h) (first-no e m.0.kind_low)
    ∙ read-rows (suc s) os (done ++ (e ∷ [])) todo one (subst (Held os) (sym (append_assoc done (e ∷ []) todo)) h)
    ∙ ap (accepted os) (append_assoc done (e ∷ []) todo)

read-objectives : (s : ℕ) (done todo rows : List Entry) → 1 ≤ length (done ++ todo) → Held (done ++ todo) rows
    → read_marks s done [] (marks_at Start (statements_text (todo ++ rows))) ≡ accepted (done ++ todo) rows
unfolding statements_text
read-objectives s done [] rows one h =
    let e : done ++ [] ≡ done = append-nil done in
    read-rows s done [] rows (subst (λ (l : List Entry). 1 ≤ length l) e one) (subst (λ (l : List Entry). Held l rows) e h)
    ∙ ap (λ (l : List Entry). accepted l rows) (sym e)
read-objectives s done (e ∷ todo) rows one h =
    let m = h.objectives e (Memᴰ.append_right done (Memᴰ.head refl)) in
    let a : (done ++ (e ∷ [])) ++ todo ≡ done ++ (e ∷ todo) = append_assoc done (e ∷ []) todo in
    entry_read s done [] e (statement-objective e (statements_text (todo ++ rows)) m.0 m.1) (objective-passes done todo e h) (first-yes m.0)
    ∙ read-objectives (suc s) (done ++ (e ∷ [])) todo rows (subst (λ (l : List Entry). 1 ≤ length l) (sym a) one) (subst (λ (l : List Entry). Held l rows) (sym a) h)
    ∙ ap (λ (l : List Entry). accepted l rows) a

pub write_read : {i : Instance} → Within i → read_bytes (instance_text i) ≡ accepted i.objectives i.rows
write_read {i} w = read-objectives 1 [] i.objectives i.rows w.some_objective (within_held w)
