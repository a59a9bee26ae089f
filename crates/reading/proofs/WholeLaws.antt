-- A whole statement, by its first word and the end that was read. Assumes nothing.
use mathlib.Core.Path.{◌≡◌, sym, ap, ◌∙◌}
use mathlib.Core.Bool.{Bool, true, false, cond}
use mathlib.Core.List.{List, ◌∷◌}
use Rattle.std.specs.Prelude.{Option, None}
use Prim.Native.Nat.{ℕ, ◌≤◌}
use native.Mathlib.Omega.{arith}
use lib.IntN.{ℤ}
use lib.ListN.{length}
use Rattle.words.specs.Tokens.{Mark, word, stop}
use Rattle.words.specs.Numbers.{is_min}
use Rattle.instance.specs.Rows.{Entry}
use Rattle.reading.specs.declared.statements.Statement.{Statement}
use Rattle.reading.specs.Grammar.{Words, objective, row, statement}
use Rattle.reading.specs.Steps.{first_words, is_closed, rest_after, EntryRead}

statement-min : (w : List ℕ) (ws : Words) → is_min w ≡ true → statement (w ∷ ws) ≡ objective ws
statement-min w ws h = ap (λ (b : Bool). cond b (objective ws) (row (w ∷ ws))) h

statement-row : (w : List ℕ) (ws : Words) → is_min w ≡ false → statement (w ∷ ws) ≡ row (w ∷ ws)
statement-row w ws h = ap (λ (b : Bool). cond b (objective ws) (row (w ∷ ws))) h

-- the words of a statement, read in another way or from marks that are the same
entry-as : {parse parse' : Words → Option Entry} {ms ms' : List Mark} {size size' base : ℕ} {before after : List ℤ} {s : Statement}
    → parse' (first_words ms') ≡ parse (first_words ms) → is_closed ms' ≡ is_closed ms → rest_after ms' ≡ rest_after ms → size ≤ size'
    → EntryRead parse ms size base before after s → EntryRead parse' ms' size' base before after s
entry-as p q r l e = record {
  entry = e.entry;
  parsed = p ∙ e.parsed;
  closed = q ∙ e.closed;
  rest = r ∙ e.rest;
  kind = e.kind;
  kind_most = e.kind_most;
  count = e.count;
  few = omega (arith, e.few, l);
  bound = e.bound;
  wide = e.wide;
  unnamed = e.unnamed;
  top = e.top;
  left = e.left;
}

-- a `;` at once
pub statement-empty : {ms rest : List Mark} → ms ≡ stop ∷ rest → (1 ≤ length ms) × (is_closed ms ≡ true → statement (first_words ms) ≡ None)
unfolding first_words
statement-empty e = (omega (arith, ap length e), λ _. ap (λ (m : List Mark). statement (first_words m)) e)

module _ {ms rest : List Mark} {w : List ℕ} (e : ms ≡ word w ∷ rest) where
  pub word-some : 1 ≤ length ms
  word-some = omega (arith, ap length e)

  module _ (h : is_min w ≡ true) where
    min-same : statement (first_words ms) ≡ objective (first_words rest)
    unfolding first_words
    min-same = ap (λ (m : List Mark). statement (first_words m)) e ∙ statement-min w (first_words rest) h

    pub min-broken : (is_closed rest ≡ true → objective (first_words rest) ≡ None) → is_closed ms ≡ true → statement (first_words ms) ≡ None
    unfolding is_closed
    min-broken f c = min-same ∙ f (sym (ap is_closed e) ∙ c)

    pub min-entry : {size size' base : ℕ} {before after : List ℤ} {s : Statement} → size ≤ size' → EntryRead objective rest size base before after s → EntryRead statement ms size' base before after s
    unfolding is_closed rest_after
    min-entry l r = entry-as min-same (ap is_closed e) (ap rest_after e) l r

  module _ (h : is_min w ≡ false) where
    row-same : statement (first_words ms) ≡ row (first_words ms)
    unfolding first_words
    row-same =
        ap (λ (m : List Mark). statement (first_words m)) e ∙ statement-row w (first_words rest) h
        ∙ sym (ap (λ (m : List Mark). row (first_words m)) e)

    pub row-broken : (is_closed ms ≡ true → row (first_words ms) ≡ None) → is_closed ms ≡ true → statement (first_words ms) ≡ None
    row-broken f c = row-same ∙ f c

    pub row-entry : {size size' base : ℕ} {before after : List ℤ} {s : Statement} → size ≤ size' → EntryRead row ms size base before after s → EntryRead statement ms size' base before after s
    row-entry l r = entry-as row-same (ap is_closed e ∙ sym (ap is_closed e)) (ap rest_after e ∙ sym (ap rest_after e)) l r
