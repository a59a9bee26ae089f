-- The file of T: what writing its front answers, from case P11 of front files. Assumes nothing.
use mathlib.Core.Path.{◌≡◌, refl, ◌∙◌, subst}
use mathlib.Core.List.{List}
use Prim.Native.Nat.{ℕ, zero, suc, ◌≤◌, ◌<◌}
use native.Mathlib.Omega.{arith}
use lib.IntN.{ℤ}
use lib.ListN.{length, get_or, drop}
use Rattle.points.specs.Lists.{Proper}
use Rattle.blocks.specs.Fields.{u16_at}
use Rattle.blocks.proofs.ByteLaws.{Bytes}
use Rattle.files.specs.Layout.{block_at}
use Rattle.files.specs.Written.{bytes_for, WrittenAs, written_number, written_value}
use Rattle.std.specs.Prelude.{Result, Ok, Err}
use Rattle.files.specs.declared.errors.WriteFileError.{WriteFileError}
use Rattle.files.specs.declared.errors.WriteFileError.TheVariants.{NotProper, ShortOutput}
use Rattle.files.proofs.CaseLaws.{values_t, models_t, CaseP11, case-P11}
use Rattle.front.specs.Listing.{values_of, values_left, models_left}
use Rattle.cases.specs.Cases.{points_t}
use Rattle.cases.proofs.TestLaws.{checks_t}

-- Runs that begin with T's points.
pub values-T : (vs : List ℤ) → values_left points_t vs ≡ values_t (drop 8 vs)
unfolding values_of
values-T vs = refl

-- A fact of 2 objectives, 3 variables and 2 points, told of what is equal to them.
pub as-T : (P : ℕ → ℕ → ℕ → List ℤ → List ℕ → Type 0) (vs : List ℤ) (ms : List ℕ) {o n k : ℕ} {vs' : List ℤ} {ms' : List ℕ}
    → o ≡ 2 → n ≡ 3 → k ≡ 2 → vs' ≡ values_left points_t vs → ms' ≡ models_left points_t ms → P o n k vs' ms' → P 2 3 2 (values_t (drop 8 vs)) (models_t (drop 2 ms))
as-T P vs ms {o} {n} {k} {vs'} {ms'} a b c d e p =
    subst (λ (ws : List ℤ). P 2 3 2 ws (models_t (drop 2 ms))) (d ∙ values-T vs)
    (subst (P 2 3 2 vs') e (subst (λ (j : ℕ). P 2 3 j vs' ms') c (subst (λ (j : ℕ). P 2 j k vs' ms') b (subst (λ (j : ℕ). P j n k vs' ms') a p))))

-- What is told of the file: done, so many bytes, and the check of each block.
abbrev pub FileTold : List ℕ → Result ℕ WriteFileError → ℕ → List ℕ → Type 0
FileTold left r bytes checks = (written_number r ≡ 0) × (written_value r ≡ bytes) × ((b : ℕ) → b < length checks → u16_at (block_at left b) 0 ≡ get_or checks b 0)

module _ (us : List ℤ) (ls : List ℕ) (proper : Proper 2 3 2 (values_t us) (models_t ls)) (found left : List ℕ) (room : 1024 ≤ length found) (small : Bytes left) where
  pub file-T : (r : Result ℕ WriteFileError) → WrittenAs 2 3 2 (values_t us) (models_t ls) found left r → FileTold left r 1024 checks_t
  file-T (Ok k) w = let p = case-P11 us ls w small in (refl, p.bytes, check p)
    where
      check : CaseP11 k left → (b : ℕ) → b < 2 → u16_at (block_at left b) 0 ≡ get_or checks_t b 0
      check p zero h = p.head_check
      check p (suc zero) h = p.points_check
      check p (suc (suc b)) h = absurd (omega arith)
  file-T (Err NotProper) w = absurd (w.improper proper)
  file-T (Err ShortOutput) w = let e : bytes_for 2 ≡ 1024 = refl in absurd (omega (arith, w.short, e))
