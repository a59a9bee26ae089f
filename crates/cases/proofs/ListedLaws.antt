-- What listing answers of an instance whose front is known. Assumes nothing.
use mathlib.Core.Path.{◌≡◌, sym, ap, ◌∙◌}
use mathlib.Core.List.{List}
use Prim.Native.Nat.{ℕ, ◌≤◌, ◌<◌}
use native.Mathlib.Omega.{arith}
use lib.IntN.{ℤ}
use lib.ListN.{length, take}
use lib.Seq.{length-take-le}
use Rattle.instance.specs.Tables.{IsInstance}
use Rattle.instance.specs.Meaning.{meaning}
use Rattle.points.specs.Fronts.{Candidate}
use Rattle.front.specs.Listing.{FrontOf, room, values_left, models_left}
use Rattle.front.specs.Answers.{listed_number, listed_value, ListedAs}
use Rattle.std.specs.Prelude.{Result, Ok, Err}
use Rattle.front.specs.declared.errors.ListError.{ListError}
use Rattle.front.specs.declared.errors.ListError.TheVariants.{NotInstance, Larger}
use Rattle.front.proofs.FrontLaws.{front-only}

-- ---- ListedAs

-- Where the front is known, so is the answer, and what is left: there is one front.
module _ {ts rs : List ℤ} (is : IsInstance ts rs) (front : List Candidate) (f : FrontOf (meaning ts rs) front) (vs : List ℤ) (ms : List ℕ) (vs' : List ℤ) (ms' : List ℕ) where
  -- the answer with this number and these points, and the runs that begin with them
  abbrev pub Tells : Result ℕ ListError → ℕ → List Candidate → Type 0
  Tells r number xs = (listed_number r ≡ number) × (listed_value r ≡ length xs) × (vs' ≡ values_left xs vs) × (ms' ≡ models_left xs ms)

  pub listed-whole : length front ≤ room vs ms → (r : Result ℕ ListError) → ListedAs ts rs vs ms vs' ms' r → Tells r 0 front
  listed-whole h (Ok k) l =
      let e : l.front ≡ front = front-only (meaning ts rs) l.is_front f in (
        l.numbered,
        l.count ∙ ap length e,
        l.values ∙ ap (λ (xs : List Candidate). values_left xs vs) e,
        l.models ∙ ap (λ (xs : List Candidate). models_left xs ms) e,
      )
  listed-whole h (Err NotInstance) l = absurd (l.is_not is)
  listed-whole h (Err (Larger k)) l = absurd (omega (arith, h, l.larger, ap length (front-only (meaning ts rs) l.is_front f)))

  pub listed-part : room vs ms < length front → (r : Result ℕ ListError) → ListedAs ts rs vs ms vs' ms' r → Tells r 11 (take (room vs ms) front)
  listed-part h (Ok k) l = absurd (omega (arith, h, l.fits, ap length (front-only (meaning ts rs) l.is_front f)))
  listed-part h (Err NotInstance) l = absurd (l.is_not is)
  listed-part h (Err (Larger k)) l =
      let e : l.front ≡ front = front-only (meaning ts rs) l.is_front f in
      let n : room vs ms ≡ length (take (room vs ms) front) = sym (length-take-le (room vs ms) front (omega arith)) in (
        l.numbered,
        l.count ∙ n,
        l.values ∙ ap (λ (xs : List Candidate). values_left (take (room vs ms) xs) vs) e,
        l.models ∙ ap (λ (xs : List Candidate). models_left (take (room vs ms) xs) ms) e,
      )
