-- What is read of a text that is accepted is an instance that tables can hold. Assumes nothing.
--
-- The invariant of reading: the objectives and rows so far are held. At the start there are None. Each entry that passes the tests
-- keeps it (VerdictLaws), and any other ends in a refusal. At the end there must be an objective, else the text is refused too.
use mathlib.Core.Path.{◌≡◌, refl, subst}
use mathlib.Core.Bool.{not}
use mathlib.Core.List.{List, [], ◌∷◌}
use Rattle.std.specs.Prelude.{Option, None, Some}
use Prim.Native.Nat.{ℕ, zero, suc, ◌≤◌}
use native.Mathlib.Omega.{arith}
use lib.ListN.{length}
use Rattle.words.specs.declared.Place.TheVariants.{Start}
use Rattle.words.specs.Tokens.{marks_at}
use Rattle.instance.specs.Rows.{Entry}
use Rattle.instance.specs.Layout.{Within}
use Rattle.reading.specs.Grammar.{Words, statements, statement}
use Rattle.reading.specs.Reading.{Outcome, accepted, refused, verdict, is_first, go_on, add_to, take_one, finish, read_on, read_bytes, instance_of}
use Rattle.text.proofs.HeldLaws.{Held, held_none, held-within}
use Rattle.text.proofs.KindLaws.{SomeKinded, statement-kinded}
use Rattle.text.proofs.VerdictLaws.{verdict-passed, passes-held}

-- What is accepted is held, and has an objective.
abbrev HeldOutcome : Outcome → Type 0
HeldOutcome (accepted os rs) = Held os rs × (1 ≤ length os)
HeldOutcome (refused k s) = Unit {0}

finish-held : (s : ℕ) (os rs : List Entry) (after : Words) → Held os rs → HeldOutcome (finish s os rs after)
finish-held s os rs (w ∷ ws) h = tt
finish-held s [] rs [] h = tt
finish-held s (o ∷ os) rs [] h = (h, omega arith)

go-held : (v s : ℕ) (more : Outcome) → (v ≡ 0 → HeldOutcome more) → HeldOutcome (go_on v s more)
go-held zero s more h = h refl
go-held (suc k) s more h = tt

take-held : (o : Option Entry) (s : ℕ) (os rs : List Entry) (more : List Entry → List Entry → Outcome) → SomeKinded o → Held os rs
    → ((os' rs' : List Entry) → Held os' rs' → HeldOutcome (more os' rs')) → HeldOutcome (take_one o s os rs more)
take-held None s os rs more k h next = tt
take-held (Some e) s os rs more k h next =
    go-held (verdict os rs e) s (more (add_to (is_first e) os e) (add_to (not (is_first e)) rs e))
    (λ z. next (add_to (is_first e) os e) (add_to (not (is_first e)) rs e) (passes-held h k (verdict-passed os rs e z)))

read_held : (s : ℕ) (os rs : List Entry) (sts : List Words) (after : Words) → Held os rs → HeldOutcome (read_on s os rs sts after)
unfolding read_on
read_held s os rs [] after h = finish-held s os rs after h
read_held s os rs (ws ∷ more) after h =
    take-held (statement ws) s os rs (λ os' rs'. read_on (suc s) os' rs' more after) (statement-kinded ws) h
    (λ os' rs' h'. read_held (suc s) os' rs' more after h')

pub read-within : (text : List ℕ) {os rs : List Entry} → read_bytes text ≡ accepted os rs → Within (instance_of os rs)
read-within text {os} {rs} e =
    let ms = marks_at Start text in
    let h = subst HeldOutcome e (read_held 1 [] [] (statements ms).ended (statements ms).after held_none) in
    held-within h.0 h.1
