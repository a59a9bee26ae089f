-- Two answers that the contract of `Instance::of` allows are equal.
use mathlib.Core.Path.{◌≡◌, refl, sym, ap, ◌∙◌}
use mathlib.Core.List.{List}
use Prim.Native.Nat.{ℕ}
use lib.IntN.{ℤ}
use Rattle.instance.specs.Answers.{SizesOf, CheckedAs}
use Rattle.std.specs.Prelude.{Result, Ok, Err}
use Rattle.refusals.specs.declared.NotInstance.{NotInstance}
use Rattle.instance.specs.declared.tables.Instance.{Instance as Sized}

abbrev sized : ℕ → ℕ → ℕ → ℕ → Sized
sized o r t v = record { objectives = o; rows = r; terms = t; variables = v }

pub sizes-unique : {ts rs : List ℤ} {s t : Sized} → SizesOf ts rs s → SizesOf ts rs t → s ≡ t
sizes-unique {s = s} {t = t} a b =
    ap (λ (n : ℕ). sized n s.rows s.terms s.variables) (a.objectives ∙ sym b.objectives)
    ∙ (ap (λ (n : ℕ). sized t.objectives n s.terms s.variables) (a.rows ∙ sym b.rows)
    ∙ (ap (λ (n : ℕ). sized t.objectives t.rows n s.variables) (a.terms ∙ sym b.terms)
    ∙ ap (sized t.objectives t.rows t.terms) (a.variables ∙ sym b.variables)))

pub checked-unique : (ts rs : List ℤ) (a b : Result Sized NotInstance) → CheckedAs ts rs a → CheckedAs ts rs b → a ≡ b
checked-unique ts rs (Ok s) (Ok t) p q = ap Ok (sizes-unique p q)
checked-unique ts rs (Ok s) (Err e) p q = absurd (q p.is)
checked-unique ts rs (Err e) (Ok t) p q = absurd (p q.is)
checked-unique ts rs (Err e) (Err f) p q = refl
