-- Setting a variable to b loses nothing that is wanted where no wanted completion has it at the other side; losing nothing is transitive.
use mathlib.Core.Path.{◌≡◌, ap, sym, ◌∙◌}
use mathlib.Core.Logic.{⊎_elim}
use Prim.Native.Nat.{ℕ, ◌+◌, ◌-◌, ◌≤◌, ◌<◌}
use native.Mathlib.Omega.{arith}
use lib.ListN.{length}
use Rattle.std.specs.Prelude.{Option, Some, None}
use Rattle.charging.specs.declared.parts.Part.{Part}
use Rattle.charging.specs.declared.rows.Rows.{Rows}
use Rattle.charging.specs.Rows.{of, variable, side, weight, Completes}
use Rattle.charging.specs.Meets.{count, need, terms_of, left, Meets}
use Rattle.charging.proofs.SumLaws.{eq-or}
use Rattle.charging.proofs.TableLaws.{row_terms}
use Rattle.charging.proofs.ChargeLaws.{forced}
use Rattle.narrowing.specs.Parts.{Put, Narrows, Leads, Cuts, Maybe}

pub two-of : (a b : ℕ) → a < 2 → b < 2 → (a ≡ 1 - b → ⊥) → a ≡ b
two-of a b l m f = ⊎_elim (λ e. e) (λ e. absurd (f (omega (arith, e)))) (eq-or a b)

module _ (n : ℕ) (W : (ℕ → ℕ) → Type 0) where
  pub narrows-trans : (y y' y'' : ℕ → ℕ) → Narrows n W y y' → Narrows n W y' y'' → Narrows n W y y''
  narrows-trans y y' y'' a b =
      record {
        more = λ v l e. let one = a.more v l e in b.more v l (λ z. e (sym one ∙ z)) ∙ one;
        keep = λ x c w. b.keep x (a.keep x c w) w;
      }

  pub narrows-back : (y y' : ℕ → ℕ) → Narrows n W y y' → (x : ℕ → ℕ) → Completes n y' x → Completes n y x
  narrows-back y y' a x c =
      record { bits = c.bits; agrees = λ v l e. let one = a.more v l e in c.agrees v l (λ z. e (sym one ∙ z)) ∙ one }

  -- what is unset still was unset
  pub narrows-unset : (y y' : ℕ → ℕ) → Narrows n W y y' → (v : ℕ) → v < n → y' v ≡ 2 → y v ≡ 2
  narrows-unset y y' a v l e = ⊎_elim (λ z. z) (λ z. absurd (z (sym (a.more v l z) ∙ e))) (eq-or (y v) 2)

  pub leads-trans : (p q r : Part) → Leads n W p q → Leads n W q r → Leads n W p r
  leads-trans p q r a b = record { good = b.good; narrows = narrows-trans (of p) (of q) (of r) a.narrows b.narrows; fewer = omega (arith, a.fewer, b.fewer) }

  -- setting v to b loses nothing where no wanted completion has it at the other side
  pub put-leads : (p : Part) (v b : ℕ) (q : Part) → Put n p v b q → v < n → b < 2 → of p v ≡ 2
      → ((x : ℕ → ℕ) → Completes n (of p) x → W x → x v ≡ 1 - b → ⊥) → Leads n W p q
  put-leads p v b q t l m u f =
      record {
        good = t.good;
        narrows = record {
          more = λ k i e. t.others k (λ z. e (ap (of p) z ∙ u));
          keep = λ x c w. record { bits = c.bits; agrees = λ k i e. agree x c w k i e };
        };
        fewer = omega (arith, t.fewer);
      }
    where
      agree : (x : ℕ → ℕ) → Completes n (of p) x → W x → (k : ℕ) → k < n → (of q k ≡ 2 → ⊥) → x k ≡ of q k
      agree x c w k i e =
          ⊎_elim
          (λ z. ap x z ∙ two-of (x v) b (c.bits v l) m (f x c w) ∙ sym t.here ∙ ap (of q) (sym z))
          (λ z. let o = t.others k z in c.agrees k i (λ y. e (o ∙ y)) ∙ sym o)
          (eq-or k v)

pub maybe-leads : (n : ℕ) (W : (ℕ → ℕ) → Type 0) (p q : Part) (v b : ℕ) (why : Type 0) (r : Part) → Leads n W p q → Maybe n q v b why r → v < n → b < 2
    → (why → of p v ≡ 2 → (x : ℕ → ℕ) → Completes n (of p) x → W x → x v ≡ 1 - b → ⊥) → Leads n W p r
maybe-leads n W p q v b why r a m l i f =
    ⊎_elim (λ e. rw e a)
    (λ e. leads-trans n W p q r a (put-leads n W q v b r e.2 l i e.1
    (λ x c w. f e.0 (narrows-unset n W (of p) (of q) a.narrows v l e.1) x (narrows-back n W (of p) (of q) a.narrows x c) w)))
    m

pub cuts-then : (n : ℕ) (W : (ℕ → ℕ) → Type 0) (p q : Part) (r : Option Part) → Leads n W p q → Cuts n W q r → Cuts n W p r
cuts-then n W p q (Some r) a c = leads-trans n W p q r a c
cuts-then n W p q None a c = λ x k w. c x (a.narrows.keep x k w) w

-- more is asked of what is wanted
pub cuts-less : (n : ℕ) (W U : (ℕ → ℕ) → Type 0) (p : Part) (r : Option Part) → ((x : ℕ → ℕ) → Completes n (of p) x → U x → W x) → Cuts n W p r → Cuts n U p r
cuts-less n W U p (Some q) f c =
    record { good = c.good; narrows = record { more = c.narrows.more; keep = λ x k u. c.narrows.keep x k (f x k u) }; fewer = c.fewer }
cuts-less n W U p None f c = λ x k u. c x k (f x k u)

pub row_more : (rows : Rows) (p q r : Part) (h j slack : ℕ) → h < count rows → j < length (terms_of rows h)
    → left rows (of p) h ≤ need rows h + slack
    → Leads rows.n (Meets rows) p q
    → Maybe rows.n q (variable (terms_of rows h) j) (1 - side (terms_of rows h) j) (slack < weight (terms_of rows h) j) r
    → Leads rows.n (Meets rows) p r
row_more rows p q r h j slack l i top a m =
    let t = row_terms rows h l in
    maybe-leads rows.n (Meets rows) p q (variable (terms_of rows h) j) (1 - side (terms_of rows h) j) (slack < weight (terms_of rows h) j) r a m (t.vars j i) (omega arith)
    (λ why u x c mt e. forced rows (of p) h j l i u (omega arith) x c mt (e ∙ flip (side (terms_of rows h) j) (t.sides j i)))
  where
    flip : (b : ℕ) → b < 2 → 1 - (1 - b) ≡ b
    flip b z = omega arith
