-- Partial assignments by value, and what it is to narrow one without losing a completion that is wanted.
use Rattle.std.specs.Prelude.{◌≡◌, ◌⊎◌, Option, Some, None, ℕ, ◌+◌, ◌≤◌, ◌<◌, ◌^◌}
use Rattle.charging.specs.declared.parts.Part.{Part}
use Rattle.charging.specs.Rows.{hit, span, bit, of, Completes}

-- How many of the first n variables are unset.
abbrev pub unset : ℕ → ℕ → ℕ
unset n set = span (λ (v : ℕ). hit (bit set v) 0 1) 0 n

-- A variable at 1 is set, `left` is at least the number of the unset, and there is no bit from n up.
pub record Good (n : ℕ) (p : Part) : Type 0 where
  pub sub : (v : ℕ) → bit p.set v ≡ 0 → bit p.one v ≡ 0
  pub count : unset n p.set ≤ p.left
  pub fits : p.one < 2 ^ n

-- q is p with v at b.
pub record Put (n : ℕ) (p : Part) (v b : ℕ) (q : Part) : Type 0 where
  pub good : Good n q
  pub here : of q v ≡ b
  pub others : (u : ℕ) → (u ≡ v → ⊥) → of q u ≡ of p u
  pub fewer : q.left + 1 ≡ p.left

-- y' sets what y sets and maybe more, and loses no completion of y that is wanted.
pub record Narrows (n : ℕ) (W : (ℕ → ℕ) → Type 0) (y y' : ℕ → ℕ) : Type 0 where
  pub more : (v : ℕ) → v < n → (y v ≡ 2 → ⊥) → y' v ≡ y v
  pub keep : (x : ℕ → ℕ) → Completes n y x → W x → Completes n y' x

-- From p to q, with no wanted completion lost.
pub record Leads (n : ℕ) (W : (ℕ → ℕ) → Type 0) (p q : Part) : Type 0 where
  pub good : Good n q
  pub narrows : Narrows n W (of p) (of q)
  pub fewer : q.left ≤ p.left

-- No completion of p is wanted.
abbrev pub Hopeless : ℕ → ((ℕ → ℕ) → Type 0) → Part → Type 0
Hopeless n W p = (x : ℕ → ℕ) → Completes n (of p) x → W x → ⊥

-- Nothing wanted is lost from p to the part that is answered; where there is none, p has no wanted completion.
abbrev pub Cuts : ℕ → ((ℕ → ℕ) → Type 0) → Part → Option Part → Type 0
Cuts n W p (Some q) = Leads n W p q
Cuts n W p None = Hopeless n W p

-- p as it is, or its unset variable v set to b because `why`.
abbrev pub Maybe : ℕ → Part → ℕ → ℕ → Type 0 → Part → Type 0
Maybe n p v b why q = (q ≡ p) ⊎ (why × (of p v ≡ 2) × Put n p v b q)
