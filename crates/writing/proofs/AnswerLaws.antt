-- Two answers that the contract of `write_text` allows are equal, and so is what they leave of the output. Assumes nothing.
use mathlib.Core.Path.{◌≡◌, refl, sym, ap, ◌∙◌}
use mathlib.Core.List.{List}
use Prim.Native.Nat.{ℕ}
use native.Mathlib.Omega.{arith}
use lib.IntN.{ℤ}
use Rattle.writing.specs.Answers.{WrittenAs}
use Rattle.std.specs.Prelude.{Result, Ok, Err}
use Rattle.writing.specs.declared.errors.WriteError.{WriteError}
use Rattle.writing.specs.declared.errors.WriteError.TheVariants.{NotInstance, ShortOutput}

pub written-unique : (ts rs : List ℤ) (found left left' : List ℕ) (a b : Result ℕ WriteError)
    → WrittenAs ts rs found left a → WrittenAs ts rs found left' b → (a ≡ b) × (left ≡ left')
written-unique ts rs found left left' (Ok k) (Ok n) p q =
    (ap Ok (p.count ∙ sym q.count), p.output ∙ sym q.output)
written-unique ts rs found left left' (Ok k) (Err NotInstance) p q = absurd (q.is_not p.is)
written-unique ts rs found left left' (Ok k) (Err ShortOutput) p q = absurd (omega (arith, p.room, q.short))
written-unique ts rs found left left' (Err NotInstance) (Ok n) p q = absurd (p.is_not q.is)
written-unique ts rs found left left' (Err NotInstance) (Err NotInstance) p q = (refl, p.output ∙ sym q.output)
written-unique ts rs found left left' (Err NotInstance) (Err ShortOutput) p q = absurd (p.is_not q.is)
written-unique ts rs found left left' (Err ShortOutput) (Ok n) p q = absurd (omega (arith, p.short, q.room))
written-unique ts rs found left left' (Err ShortOutput) (Err NotInstance) p q = absurd (q.is_not p.is)
written-unique ts rs found left left' (Err ShortOutput) (Err ShortOutput) p q = (refl, p.output ∙ sym q.output)
