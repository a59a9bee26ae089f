-- Laws of listing's answers, for callers: they are determined, and the list is complete. Assumes nothing.
use mathlib.Core.Path.{◌≡◌, refl, sym, ap, ◌∙◌, subst}
use mathlib.Core.Logic.{◌↔◌}
use mathlib.Core.List.Memᴰ
use mathlib.Core.List.{List, [], ◌∷◌, Memᴰ}
use Prim.Native.Nat.{ℕ, ◌<◌}
use native.Mathlib.Omega.{arith}
use lib.IntN.{ℤ, pos}
use lib.ListN.{length, get_or, take}
use Rattle.std.specs.Prelude.{Result, Ok, Err}
use lib.Signed.{◌≤ℤ◌}
use Rattle.instance.specs.Tables.{IsInstance}
use Rattle.instance.specs.Meaning.{Instance, meaning, vector, Feasible}
use Rattle.judge.specs.Judging.{padded}
use Rattle.judge.proofs.VectorLaws.{padded-get_or}
use Rattle.points.specs.Vectors.{LeAll}
use Rattle.points.specs.Fronts.{Candidate}
use Rattle.points.proofs.PlaceLaws.{le_all-at}
use Rattle.front.specs.Listing.{FrontOf, room, values_left, models_left}
use Rattle.front.specs.Answers.{ListedAs}
use Rattle.front.specs.declared.errors.ListError.{ListError}
use Rattle.front.specs.declared.errors.ListError.TheVariants.{NotInstance, Larger}
use Rattle.front.proofs.FrontLaws.{front-only}
use Rattle.front.proofs.ListingLaws.{candidate}

-- ---- the answers are determined

module _ (ts rs vs : List ℤ) (ms : List ℕ) where
  -- Two answers that the contract allows are equal, and so is all lent memory: there is one front, and both are told by it.
  pub listed-unique : (r s : Result ℕ ListError) (vs₁ vs₂ : List ℤ) (ms₁ ms₂ : List ℕ) → ListedAs ts rs vs ms vs₁ ms₁ r → ListedAs ts rs vs ms vs₂ ms₂ s
      → (r ≡ s) × (vs₁ ≡ vs₂) × (ms₁ ≡ ms₂)
  listed-unique (Ok k) (Ok m) vs₁ vs₂ ms₁ ms₂ p q =
      let e : p.front ≡ q.front = front-only (meaning ts rs) p.is_front q.is_front in (
        ap Ok (p.count ∙ ap length e ∙ sym q.count),
        p.values ∙ ap (λ (xs : List Candidate). values_left xs vs) e ∙ sym q.values,
        p.models ∙ ap (λ (xs : List Candidate). models_left xs ms) e ∙ sym q.models,
      )
  listed-unique (Ok k) (Err NotInstance) vs₁ vs₂ ms₁ ms₂ p q = absurd (q.is_not p.is)
  listed-unique (Ok k) (Err (Larger m)) vs₁ vs₂ ms₁ ms₂ p q = absurd (omega (arith, p.fits, q.larger, ap length (front-only (meaning ts rs) p.is_front q.is_front)))
  listed-unique (Err NotInstance) (Ok m) vs₁ vs₂ ms₁ ms₂ p q = absurd (p.is_not q.is)
  listed-unique (Err NotInstance) (Err NotInstance) vs₁ vs₂ ms₁ ms₂ p q = (refl, p.values ∙ sym q.values, p.models ∙ sym q.models)
  listed-unique (Err NotInstance) (Err (Larger m)) vs₁ vs₂ ms₁ ms₂ p q = absurd (p.is_not q.is)
  listed-unique (Err (Larger k)) (Ok m) vs₁ vs₂ ms₁ ms₂ p q = absurd (omega (arith, q.fits, p.larger, ap length (front-only (meaning ts rs) p.is_front q.is_front)))
  listed-unique (Err (Larger k)) (Err NotInstance) vs₁ vs₂ ms₁ ms₂ p q = absurd (q.is_not p.is)
  listed-unique (Err (Larger k)) (Err (Larger m)) vs₁ vs₂ ms₁ ms₂ p q =
      let e : p.front ≡ q.front = front-only (meaning ts rs) p.is_front q.is_front in (
        ap (λ (r : ℕ). Err (Larger r)) (p.count ∙ sym q.count),
        p.values ∙ ap (λ (xs : List Candidate). values_left (take (room vs ms) xs) vs) e ∙ sym q.values,
        p.models ∙ ap (λ (xs : List Candidate). models_left (take (room vs ms) xs) ms) e ∙ sym q.models,
      )

-- ---- the list is complete

-- The list has a candidate at least as good as a: at most its value in every objective. It is feasible, and its vector is that of its own assignment.
pub record AtLeastAsGood (i : Instance) (xs : List Candidate) (a : ℕ) : Type 0 where
  pub by : Candidate
  pub listed : Memᴰ by xs
  pub feasible : Feasible i by.model
  pub own : by.vector ≡ padded (vector i by.model)
  pub at_most : LeAll by.vector (padded (vector i a))

-- The same by objective: the value of each is at most that of a.
pub good-value : {i : Instance} {xs : List Candidate} {a : ℕ} (g : AtLeastAsGood i xs a) (j : ℕ) → j < 4 → get_or (vector i g.by.model) j (pos 0) ≤ℤ get_or (vector i a) j (pos 0)
good-value {i} {xs} {a} g j h =
    let v = vector i g.by.model in
    let l : LeAll (padded v) (padded (vector i a)) = subst (λ (u : List ℤ). LeAll u (padded (vector i a))) g.own g.at_most in
    subst (λ (z : ℤ). z ≤ℤ get_or (vector i a) j (pos 0)) (padded-get_or v j h)
    (subst (λ (z : ℤ). get_or (padded v) j (pos 0) ≤ℤ z) (padded-get_or (vector i a) j h) (le_all-at (padded v) (padded (vector i a)) l j))

pub front-good : {i : Instance} {xs : List Candidate} → FrontOf i xs → (a : ℕ) → Feasible i a → AtLeastAsGood i xs a
front-good {i} f a h =
    let p = f.complete (candidate i a) (record { feasible = h; has_vector = refl }) in
    let m = f.members p.by p.member in
    record { by = p.by; listed = p.member; feasible = m.feasible; own = m.has_vector; at_most = p.covers.at_most }

none-listed : (xs : List Candidate) (x : Candidate) → length xs ≡ 0 → Memᴰ x xs → ⊥
none-listed [] x e m = Memᴰ.not-nil m
none-listed (y ∷ ys) x e m = omega arith

front-none : {i : Instance} (xs : List Candidate) → FrontOf i xs → ((a : ℕ) → Feasible i a → ⊥) → length xs ≡ 0
front-none [] f h = refl
front-none (x ∷ xs) f h = absurd (h x.model (f.members x (Memᴰ.head refl)).feasible)

module _ (ts rs vs : List ℤ) (ms : List ℕ) (vs' : List ℤ) (ms' : List ℕ) where
  -- For each feasible assignment one at least as good is listed.
  pub listed-complete : {k : ℕ} (l : ListedAs ts rs vs ms vs' ms' (Ok k)) (a : ℕ) → Feasible (meaning ts rs) a → AtLeastAsGood (meaning ts rs) l.front a
  listed-complete l = front-good l.is_front

  -- The list of an instance is empty exactly where nothing is feasible.
  pub listed-empty : IsInstance ts rs → (r : Result ℕ ListError) → ListedAs ts rs vs ms vs' ms' r → (r ≡ Ok 0) ↔ ((a : ℕ) → Feasible (meaning ts rs) a → ⊥)
  listed-empty is r p = (λ e. empty (subst (ListedAs ts rs vs ms vs' ms') e p), none r p)
    where
      empty : ListedAs ts rs vs ms vs' ms' (Ok 0) → (a : ℕ) → Feasible (meaning ts rs) a → ⊥
      empty l a h =
          let g = listed-complete l a h in
          none-listed l.front g.by (sym l.count) g.listed

      none : (s : Result ℕ ListError) → ListedAs ts rs vs ms vs' ms' s → ((a : ℕ) → Feasible (meaning ts rs) a → ⊥) → s ≡ Ok 0
      none (Ok k) l h = ap Ok (l.count ∙ front-none l.front l.is_front h)
      none (Err NotInstance) l h = absurd (l.is_not is)
      none (Err (Larger k)) l h = absurd (omega (arith, l.larger, front-none l.front l.is_front h))
