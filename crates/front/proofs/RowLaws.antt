-- The half rows that are laid out: they fit into the room, and are those of the instance. Assumes nothing.
use mathlib.Core.Path.{◌≡◌, ◌∙◌, ap, subst, sym}
use mathlib.Core.List.{List}
use Prim.Native.Nat.{ℕ, ◌+◌, ◌≤◌, ◌<◌}
use native.Mathlib.Omega.{arith}
use lib.IntN.{ℤ}
use lib.ListN.{length, take}
use Rattle.std.proofs.lemmas.List.{length-take-le}
use Rattle.charging.specs.declared.rows.Term.{Term}
use Rattle.charging.specs.declared.rows.Rows.{Rows}
use Rattle.charging.specs.Rows.{weight}
use Rattle.instance.specs.Limits.{max_coef}
use Rattle.instance.specs.Lists.{tabulate}
use Rattle.instance.specs.Meaning.{entry_at}
use Rattle.instance.specs.Answers.{SizesOf}
use Rattle.instance.specs.declared.tables.Instance.{Instance as Sized}
use Rattle.normal.specs.Rows.{Laid}
use Rattle.normal.specs.Grown.{half_rows_all}
use Rattle.normal.proofs.NormalLaws.{few-halves, few-terms, few-small, ordered-is, normal-is}
use Rattle.front.specs.Listing.{HalfRows}

module _ {ts rs : List ℤ} {sizes : Sized} (s : SizesOf ts rs sizes) {starts : List ℕ} {laid : List Term} {needs : List ℕ} {halves used : ℕ}
    (l : Laid (half_rows_all (tabulate (entry_at ts rs) sizes.objectives sizes.rows)) starts laid needs halves used) where
  pub halves-fit : halves ≤ 512
  halves-fit = few-halves s.is s.objectives s.rows l

  pub terms-fit : used ≤ 8192
  terms-fit = few-terms s.is s.objectives s.rows l

  pub half-rows : (rows : Rows) → rows.n ≡ sizes.variables → rows.starts.now ≡ take (halves + 1) starts → rows.terms.now ≡ take used laid → rows.needs.now ≡ take halves needs
      → used ≤ length laid → HalfRows ts rs sizes.objectives rows
  half-rows rows n starts_are terms_are needs_are room =
      let variables = n ∙ s.variables in
      let long : length (take used laid) ≡ used = length-take-le used laid room in
      record {
        is = s.is;
        objectives = s.objectives;
        variables = variables;
        narrow =
            record {
              few = omega (arith, long, terms-fit, ap length terms_are);
              small = subst (λ (terms : List Term). (k : ℕ) → k < length terms → weight terms k ≤ max_coef) (sym terms_are) (few-small s.is s.objectives s.rows l);
            };
        ordered = λ costs p. ordered-is s.is s.objectives s.rows l rows variables starts_are terms_are needs_are p;
        normal = λ costs p. normal-is s.is s.objectives s.rows l rows variables starts_are terms_are needs_are p;
      }
