-- Laws of judging's answers, for callers: two allowed answers are equal, when judging is done, and what its row says.
use mathlib.Core.Path.{◌≡◌, refl, sym, ap, ◌∙◌}
use mathlib.Core.List.{List}
use mathlib.Core.Logic.{◌↔◌}
use Prim.Native.Nat.{ℕ, ◌^◌, ◌<◌}
use native.Mathlib.Omega.{arith}
use lib.IntN.{ℤ, pos}
use lib.ListN.{length, get_or, take}
use Rattle.instance.specs.Tables.{objectives_in, IsInstance}
use Rattle.instance.specs.Meaning.{entry_at, meaning, vector, Feasible}
use Rattle.instance.proofs.ListLaws.{tabulate-length}
use Rattle.judge.specs.Judging.{padded}
use Rattle.judge.specs.Answers.{Answer, answer_of, Judges, JudgedAs}
use Rattle.std.specs.Prelude.{Result, Ok, Err}
use Rattle.judge.specs.declared.errors.JudgeError.{JudgeError}
use Rattle.judge.specs.declared.errors.JudgeError.TheVariants.{NotInstance, BitsBeyond}
use Rattle.judge.specs.declared.judging.Judgement.{Judgement}
use Rattle.judge.proofs.VectorLaws.{padded-get_or, padded-take, vector-length}
use Rattle.judge.proofs.UnmetLaws.{feasible-unmet, unmet-feasible}

-- ---- Judgement
judgement-same : (j k : Judgement) → j.values ≡ k.values → j.row ≡ k.row → j ≡ k
judgement-same j k e f = ap (λ (v : List ℤ). record { values = v; row = j.row }) e ∙ ap (λ (r : ℕ). record { values = k.values; row = r }) f

-- ---- JudgedAs
module _ (ts rs : List ℤ) (a : ℕ) where
  -- With the other way of each cause: where the tables are no instance the answer is NotInstance, and so on.
  pub judged-unique : (r s : Result Judgement JudgeError) → JudgedAs ts rs a r → JudgedAs ts rs a s → r ≡ s
  judged-unique (Ok j) (Ok k) p q = ap Ok (judgement-same j k (p.values ∙ sym q.values) (p.row ∙ sym q.row))
  judged-unique (Ok j) (Err NotInstance) p q = absurd (q p.is)
  judged-unique (Ok j) (Err BitsBeyond) p q = absurd (omega (arith, p.bits, q.bits))
  judged-unique (Err NotInstance) (Ok k) p q = absurd (p q.is)
  judged-unique (Err NotInstance) (Err NotInstance) p q = refl
  judged-unique (Err NotInstance) (Err BitsBeyond) p q = absurd (p q.is)
  judged-unique (Err BitsBeyond) (Ok k) p q = absurd (omega (arith, p.bits, q.bits))
  judged-unique (Err BitsBeyond) (Err NotInstance) p q = absurd (q p.is)
  judged-unique (Err BitsBeyond) (Err BitsBeyond) p q = refl

  -- Of an instance, an assignment with no bit from n up is judged.
  pub judged-done : IsInstance ts rs → a < 2 ^ (meaning ts rs).variables → (r : Result Judgement JudgeError) → JudgedAs ts rs a r → Judges ts rs a (answer_of r)
  judged-done i h (Ok j) p = p
  judged-done i h (Err NotInstance) p = absurd (p i)
  judged-done i h (Err BitsBeyond) p = absurd (omega (arith, p.bits))

-- ---- Judges
-- Feasible exactly where no row is unmet.
pub judges-feasible : {ts rs : List ℤ} {a : ℕ} {x : Answer} → Judges ts rs a x → Feasible (meaning ts rs) a ↔ (x.row ≡ 0)
judges-feasible {ts} {rs} {a} p =
    (λ f. p.row ∙ feasible-unmet (meaning ts rs) a f, λ z. unmet-feasible (meaning ts rs) a p.bits (sym p.row ∙ z))

-- The value at each of the four places; of `Done j` they are j.first, j.second, j.third, j.fourth.
pub judges-value : {ts rs : List ℤ} {a : ℕ} {x : Answer} → Judges ts rs a x → (k : ℕ) → k < 4 → get_or x.values k (pos 0) ≡ get_or (vector (meaning ts rs) a) k (pos 0)
judges-value {ts} {rs} {a} p k h = ap (λ (l : List ℤ). get_or l k (pos 0)) p.values ∙ padded-get_or (vector (meaning ts rs) a) k h

-- The vector itself, as long as there are objectives.
pub judges-vector : {ts rs : List ℤ} {a : ℕ} {x : Answer} → Judges ts rs a x → take (objectives_in rs) x.values ≡ vector (meaning ts rs) a
judges-vector {ts} {rs} {a} {x} p =
    let v = vector (meaning ts rs) a in
    let l : length v ≡ objectives_in rs = vector-length (meaning ts rs) a ∙ tabulate-length (entry_at ts rs) 0 (objectives_in rs) in
    ap (take (objectives_in rs)) p.values
    ∙ (ap (λ (n : ℕ). take n (padded v)) (sym l) ∙ padded-take v (omega (arith, p.is.few_objectives)))
