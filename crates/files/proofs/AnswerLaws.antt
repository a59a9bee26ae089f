-- Two answers that a contract allows are equal, and so is what they leave. Memory holds bytes: that is what `Bytes` says.
use mathlib.Core.Path.{◌≡◌, refl, sym, ap, ◌∙◌}
use mathlib.Core.List.{List}
use Prim.Native.Nat.{ℕ, ◌+◌, ◌-◌, ◌<◌}
use native.Mathlib.Decide.{dec_lt}
use native.Mathlib.Omega.{arith}
use lib.IntN.{ℤ}
use lib.ListN.{length, get_or}
use lib.Seq.{ext_get_or, get_or-drop}
use Rattle.blocks.specs.Fields.{byte_at}
use Rattle.blocks.proofs.ByteLaws.{Bytes}
use Rattle.files.specs.Written.{bytes_for, WrittenAs, WrittenAll}
use Rattle.files.specs.Taken.{ReadAs, Answer, LowestNot}
use Rattle.files.specs.declared.read.FileHead.{FileHead}
use Rattle.files.specs.declared.errors.WriteFileError.{WriteFileError}
use Rattle.files.specs.declared.errors.WriteFileError.TheVariants.{NotProper as Improper, ShortOutput as NoRoom}
use Rattle.files.specs.declared.errors.ReadFileError.{ReadFileError}
use Rattle.files.specs.declared.errors.ReadFileError.TheVariants.{BadLength, BadCheck, BadLayout, NotProper, ShortOutput}
use Rattle.std.specs.Prelude.{Result, Ok, Err}
use Rattle.files.proofs.FileLaws.{bytes-unique}

-- ---- writing
module _ (o n p : ℕ) (vs : List ℤ) (ms found left left' : List ℕ) where
  all-unique : {k k' a a' : ℕ} → WrittenAll o n p vs ms found left k a → WrittenAll o n p vs ms found left' k' a' → Bytes left → Bytes left' → left ≡ left'
  all-unique x y hb hb' =
      ext_get_or 0 left left' (x.whole ∙ sym y.whole) (λ i h. by i h (dec_lt i (bytes_for p)))
    where
      by : (i : ℕ) → i < length left → Dec (i < bytes_for p) → byte_at left i ≡ byte_at left' i
      by i h (yes l) = bytes-unique left left' x.file y.file hb hb' (omega (arith, x.room, x.whole)) (omega (arith, y.room, y.whole)) i l
      by i h (no l) =
          let m = i - bytes_for p in
          let e : bytes_for p + m ≡ i = omega arith in
          ap (byte_at left) (sym e)
          ∙ (sym (get_or-drop (bytes_for p) left m 0)
          ∙ (ap (λ (t : List ℕ). get_or t m 0) (x.rest ∙ sym y.rest) ∙ (get_or-drop (bytes_for p) left' m 0 ∙ ap (byte_at left') e)))

  pub written-unique : (a b : Result ℕ WriteFileError) → WrittenAs o n p vs ms found left a → WrittenAs o n p vs ms found left' b → Bytes left → Bytes left' → (a ≡ b) × (left ≡ left')
  written-unique (Ok k) (Ok m) x y h l = (ap Ok (x.count ∙ sym y.count), all-unique x y h l)
  written-unique (Ok k) (Err Improper) x y h l = absurd (y.improper x.proper)
  written-unique (Ok k) (Err NoRoom) x y h l = absurd (omega (arith, x.room, y.short))
  written-unique (Err Improper) (Ok m) x y h l = absurd (x.improper y.proper)
  written-unique (Err Improper) (Err Improper) x y h l = (refl, x.output ∙ sym y.output)
  written-unique (Err Improper) (Err NoRoom) x y h l = absurd (x.improper y.proper)
  written-unique (Err NoRoom) (Ok m) x y h l = absurd (omega (arith, y.room, x.short))
  written-unique (Err NoRoom) (Err Improper) x y h l = absurd (y.improper x.proper)
  written-unique (Err NoRoom) (Err NoRoom) x y h l = (refl, x.output ∙ sym y.output)

-- ---- reading
pub lowest-unique : {P : ℕ → Type 0} {f : List ℕ} {a b : ℕ} → LowestNot P f a → LowestNot P f b → a ≡ b
lowest-unique {a = a} {b = b} x y =
    let l : a < b → ⊥ = λ h. x.fails (y.below a h) in
    let m : b < a → ⊥ = λ h. y.fails (x.below b h) in
    omega arith

-- the three numbers of an answer
abbrev heading : ℕ → ℕ → ℕ → FileHead
heading o n p = record { objectives = o; n = n; points = p }

abbrev head_in : Answer → FileHead
head_in a = heading a.objectives a.variables a.points

module _ (f : List ℕ) (vs vs' vs'' : List ℤ) (ms ms' ms'' : List ℕ) where
  pub read-unique : (a b : Result FileHead ReadFileError) → ReadAs f vs ms vs' ms' a → ReadAs f vs ms vs'' ms'' b → (a ≡ b) × ((vs' ≡ vs'') × (ms' ≡ ms''))
  read-unique (Ok a) (Ok b) x y = (ap (λ (t : Answer). Ok (head_in t)) (x.answer ∙ sym y.answer), (x.values ∙ sym y.values, x.models ∙ sym y.models))
  read-unique (Ok a) (Err BadLength) x y = absurd (y.wrong x.sound.sized)
  read-unique (Ok a) (Err (BadCheck b)) x y = absurd (y.lowest.fails (x.sound.checked b y.lowest.inside))
  read-unique (Ok a) (Err (BadLayout b)) x y = absurd (y.lowest.fails (x.sound.laid b y.lowest.inside))
  read-unique (Ok a) (Err NotProper) x y = absurd (y.improper x.proper)
  read-unique (Ok a) (Err ShortOutput) x y = absurd (y.short x.room)
  read-unique (Err BadLength) (Ok b) x y = absurd (x.wrong y.sound.sized)
  read-unique (Err BadLength) (Err BadLength) x y = (refl, (x.kept.values ∙ sym y.kept.values, x.kept.models ∙ sym y.kept.models))
  read-unique (Err BadLength) (Err (BadCheck b)) x y = absurd (x.wrong y.sized)
  read-unique (Err BadLength) (Err (BadLayout b)) x y = absurd (x.wrong y.sized)
  read-unique (Err BadLength) (Err NotProper) x y = absurd (x.wrong y.sound.sized)
  read-unique (Err BadLength) (Err ShortOutput) x y = absurd (x.wrong y.sound.sized)
  read-unique (Err (BadCheck a)) (Ok b) x y = absurd (x.lowest.fails (y.sound.checked a x.lowest.inside))
  read-unique (Err (BadCheck a)) (Err BadLength) x y = absurd (y.wrong x.sized)
  read-unique (Err (BadCheck a)) (Err (BadCheck b)) x y = (ap (λ (t : ℕ). Err (BadCheck t)) (lowest-unique x.lowest y.lowest), (x.kept.values ∙ sym y.kept.values, x.kept.models ∙ sym y.kept.models))
  read-unique (Err (BadCheck a)) (Err (BadLayout b)) x y = absurd (x.lowest.fails (y.checked a x.lowest.inside))
  read-unique (Err (BadCheck a)) (Err NotProper) x y = absurd (x.lowest.fails (y.sound.checked a x.lowest.inside))
  read-unique (Err (BadCheck a)) (Err ShortOutput) x y = absurd (x.lowest.fails (y.sound.checked a x.lowest.inside))
  read-unique (Err (BadLayout a)) (Ok b) x y = absurd (x.lowest.fails (y.sound.laid a x.lowest.inside))
  read-unique (Err (BadLayout a)) (Err BadLength) x y = absurd (y.wrong x.sized)
  read-unique (Err (BadLayout a)) (Err (BadCheck b)) x y = absurd (y.lowest.fails (x.checked b y.lowest.inside))
  read-unique (Err (BadLayout a)) (Err (BadLayout b)) x y =
      (ap (λ (t : ℕ). Err (BadLayout t)) (lowest-unique x.lowest y.lowest), (x.kept.values ∙ sym y.kept.values, x.kept.models ∙ sym y.kept.models))
  read-unique (Err (BadLayout a)) (Err NotProper) x y = absurd (x.lowest.fails (y.sound.laid a x.lowest.inside))
  read-unique (Err (BadLayout a)) (Err ShortOutput) x y = absurd (x.lowest.fails (y.sound.laid a x.lowest.inside))
  read-unique (Err NotProper) (Ok b) x y = absurd (x.improper y.proper)
  read-unique (Err NotProper) (Err BadLength) x y = absurd (y.wrong x.sound.sized)
  read-unique (Err NotProper) (Err (BadCheck b)) x y = absurd (y.lowest.fails (x.sound.checked b y.lowest.inside))
  read-unique (Err NotProper) (Err (BadLayout b)) x y = absurd (y.lowest.fails (x.sound.laid b y.lowest.inside))
  read-unique (Err NotProper) (Err NotProper) x y = (refl, (x.kept.values ∙ sym y.kept.values, x.kept.models ∙ sym y.kept.models))
  read-unique (Err NotProper) (Err ShortOutput) x y = absurd (x.improper y.proper)
  read-unique (Err ShortOutput) (Ok b) x y = absurd (x.short y.room)
  read-unique (Err ShortOutput) (Err BadLength) x y = absurd (y.wrong x.sound.sized)
  read-unique (Err ShortOutput) (Err (BadCheck b)) x y = absurd (y.lowest.fails (x.sound.checked b y.lowest.inside))
  read-unique (Err ShortOutput) (Err (BadLayout b)) x y = absurd (y.lowest.fails (x.sound.laid b y.lowest.inside))
  read-unique (Err ShortOutput) (Err NotProper) x y = absurd (y.improper x.proper)
  read-unique (Err ShortOutput) (Err ShortOutput) x y = (refl, (x.kept.values ∙ sym y.kept.values, x.kept.models ∙ sym y.kept.models))
