-- The end of a statement: from a run of terms to what the statement says. Assumes nothing.
use mathlib.Core.Path.{◌≡◌, sym, ap, ◌∙◌}
use mathlib.Core.Bool.{Bool, true, ◌||◌}
use mathlib.Core.List.{List, [], ◌∷◌}
use Rattle.std.specs.Prelude.{Option, None}
use Prim.Native.Nat.{ℕ, ◌<◌}
use native.Mathlib.Omega.{arith}
use lib.Dec.{ltb}
use lib.IntN.{ℤ, pos, nat_abs}
use lib.ListN.{length}
use Rattle.words.specs.declared.Place.TheVariants.{Inside}
use Rattle.words.specs.Tokens.{Mark, word, stop, marks_at}
use Rattle.words.specs.Numbers.{relation}
use Rattle.words.proofs.ByteLaws.{clash}
use Rattle.instance.specs.Limits.{max_bound}
use Rattle.instance.specs.Kinds.{number_of}
use Rattle.reading.specs.declared.terms.Run.{Run}
use Rattle.reading.specs.declared.statements.Bound.{Bound}
use Rattle.reading.specs.declared.statements.Statement.{Statement}
use Rattle.reading.specs.Grammar.{objective, row, row_end}
use Rattle.reading.specs.Reading.{any, is_wide}
use Rattle.reading.specs.Steps.{first_words, is_closed, rest_after, add_terms, RunIs, IsBound, NoBound, EntryRead}
use Rattle.reading.proofs.ParseLaws.{adds_none}
use Rattle.reading.proofs.RunLaws.{or-none}
use Rattle.reading.proofs.StatementLaws.{adds-last, objective-relation, relation-le, row-bound}

-- a statement of which a `;` ends none is not closed
open_none : {c : Bool} → c ≡ is_closed [] → c ≡ true → {A : Type 0} → A
unfolding is_closed
open_none e h = clash (sym e ∙ h)

module _ {text : List ℕ} {base : ℕ} {before after : List ℤ} {r : Run} (run : RunIs text base before after r) where
  here : List Mark
  here = marks_at Inside r.rest.now

  -- nothing is left after the terms
  pub objective-end : marks_at Inside r.rest.now ≡ [] → is_closed (marks_at Inside text) ≡ true → objective (first_words (marks_at Inside text)) ≡ None
  objective-end e c = open_none (run.reached.closed_as ∙ ap is_closed e) c

  pub row-end-none : marks_at Inside r.rest.now ≡ [] → is_closed (marks_at Inside text) ≡ true → row (first_words (marks_at Inside text)) ≡ None
  row-end-none e c = open_none (run.reached.closed_as ∙ ap is_closed e) c

  -- a relation after an objective's terms
  pub objective-word : {w : List ℕ} {rest : List Mark} → marks_at Inside r.rest.now ≡ word w ∷ rest → (relation w ≡ 0 → ⊥) → objective (first_words (marks_at Inside text)) ≡ None
  unfolding first_words
  objective-word {w} {rest} e h =
      run.reached.objective_as
      ∙ ap (add_terms run.terms) (ap (λ (m : List Mark). objective (first_words m)) e ∙ objective-relation w (first_words rest) h)
      ∙ adds_none run.terms

  -- an objective
  pub objective-done : {rest : List Mark} → marks_at Inside r.rest.now ≡ stop ∷ rest → (s : Statement) → rest ≡ marks_at Inside s.rest.now → length s.rest.now < length r.rest.now
      → number_of s.kind ≡ 1 → s.count ≡ r.count → s.bound ≡ pos 0 → s.wide ≡ r.wide → s.unnamed ≡ r.unnamed → s.top ≡ r.top
      → EntryRead objective (marks_at Inside text) (length text) base before after s
  unfolding first_words is_closed rest_after objective
  objective-done {rest} e s f l k n b w u t = record {
    entry = record { kind = 1; terms = run.terms; bound = pos 0 };
    parsed = run.reached.objective_as ∙ ap (λ (m : List Mark). add_terms run.terms (objective (first_words m))) e ∙ adds-last run.terms 1 (pos 0);
    closed = run.reached.closed_as ∙ ap is_closed e;
    rest = run.reached.rest_as ∙ ap rest_after e ∙ f;
    kind = k;
    kind_most = omega (arith, k);
    count = n ∙ run.count;
    few = omega (arith, n, run.few, l);
    bound = b;
    wide = w ∙ run.wide ∙ or-none (any is_wide run.terms);
    unnamed = u ∙ run.unnamed;
    top = t ∙ run.top;
    left = run.left;
  }

  -- ---- a row

  -- a `;` where a relation should stand
  pub row-stop : {rest : List Mark} → marks_at Inside r.rest.now ≡ stop ∷ rest → row (first_words (marks_at Inside text)) ≡ None
  unfolding first_words row
  row-stop e = run.reached.row_as ∙ ap (λ (m : List Mark). add_terms run.terms (row (first_words m))) e ∙ adds_none run.terms

  module _ {w : List ℕ} {rest : List Mark} (e : marks_at Inside r.rest.now ≡ word w ∷ rest) (h : relation w ≡ 0 → ⊥) where
    pub row-unbound : NoBound rest → is_closed (marks_at Inside text) ≡ true → row (first_words (marks_at Inside text)) ≡ None
    unfolding first_words is_closed
    row-unbound q c =
        run.reached.row_as
        ∙ ap (add_terms run.terms) (ap (λ (m : List Mark). row (first_words m)) e
        ∙ q (sym (run.reached.closed_as ∙ ap is_closed e) ∙ c) w h)
        ∙ adds_none run.terms

    pub row_done : {bytes : List ℕ} → rest ≡ marks_at Inside bytes → length bytes < length r.rest.now → (b : Bound) → IsBound bytes b → (s : Statement) → s.rest.now ≡ b.rest.now
        → number_of s.kind ≡ relation w → s.count ≡ r.count → s.bound ≡ b.value → s.wide ≡ r.wide || ltb max_bound (nat_abs b.value) → s.unnamed ≡ r.unnamed → s.top ≡ r.top
        → EntryRead row (marks_at Inside text) (length text) base before after s
    unfolding first_words is_closed rest_after
    row_done {bytes} m l b q s f k n g v u t = record {
      entry = record { kind = relation w; terms = run.terms; bound = b.value };
      parsed = run.reached.row_as
          ∙ ap (add_terms run.terms) (ap (λ (x : List Mark). row (first_words x)) all
          ∙ row-bound w q.bound_word [] h
          ∙ ap (λ (z : Option ℤ). row_end (relation w) z []) q.says)
          ∙ adds-last run.terms (relation w) b.value;
      closed = run.reached.closed_as ∙ ap is_closed all;
      rest = run.reached.rest_as ∙ ap rest_after all ∙ ap (marks_at Inside) (sym f);
      kind = k;
      kind_most = omega (arith, k, relation-le w);
      count = n ∙ run.count;
      few = let z : length s.rest.now ≡ length b.rest.now = ap length f in omega (arith, n, run.few, l, q.fewer);
      bound = g;
      wide = v ∙ ap (λ (x : Bool). x || ltb max_bound (nat_abs b.value)) run.wide;
      unnamed = u ∙ run.unnamed;
      top = t ∙ run.top;
      left = run.left;
    }
      where
        all : marks_at Inside r.rest.now ≡ word w ∷ (word q.bound_word ∷ (stop ∷ marks_at Inside b.rest.now))
        all = e ∙ ap (λ (x : List Mark). word w ∷ x) (m ∙ q.marks)
