-- What the search for one wanted completion promises.
use Rattle.std.specs.Prelude.{◌≡◌, Bool, true, false, Option, Some, None, ℕ, ◌≤◌, ◌<◌, ◌^◌}
use Rattle.charging.specs.declared.parts.Part.{Part}
use Rattle.charging.specs.Rows.{of, Completes, cost}
use Rattle.narrowing.specs.Parts.{Hopeless}
use Rattle.forcing.specs.declared.goals.Goal.{Goal}
use Rattle.forcing.specs.Goals.{many, objective, cap_of}

-- An unset variable of p, or p is complete.
abbrev pub Branch : ℕ → Part → Option ℕ → Type 0
Branch n p (Some v) = (v < n) × (of p v ≡ 2)
Branch n p None = (u : ℕ) → u < n → of p u ≡ 2 → ⊥

-- q is a wanted completion of p, with no bit from n up.
pub record Found (n : ℕ) (W : (ℕ → ℕ) → Type 0) (p q : Part) : Type 0 where
  pub completes : Completes n (of p) (of q)
  pub wanted : W (of q)
  pub fits : q.one < 2 ^ n

-- A wanted completion of p, or that there is none.
abbrev pub Finds : ℕ → ((ℕ → ℕ) → Type 0) → Part → Option Part → Type 0
Finds n W p (Some q) = Found n W p q
Finds n W p None = Hopeless n W p

-- p itself has W, or no completion of p has.
pub record Tells (n : ℕ) (W : (ℕ → ℕ) → Type 0) (p : Part) (r : Bool) : Type 0 where
  pub yes : r ≡ true → W (of p)
  pub no : r ≡ false → Hopeless n W p

-- Each objective costs at most its cap.
abbrev pub Cheap : Goal → (ℕ → ℕ) → Type 0
Cheap goal x = (i : ℕ) → i < many goal → cost (objective goal i) x ≤ cap_of goal i
