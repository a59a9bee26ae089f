-- The rows of a run, four values each, are the vectors of its points: rows that rise and stand apart are points that do.
use mathlib.Core.Path.{◌≡◌, sym, ap, ap₂, subst, ◌∙◌}
use mathlib.Core.List.{List, []}
use Prim.Native.Nat.{ℕ, ◌+◌, ◌-◌, ◌*◌, ◌/◌, ◌≤◌, ◌<◌}
use native.Mathlib.Omega.{arith}
use lib.IntN.{ℤ, pos}
use lib.ListN.{length, get_or, take, drop, length-drop}
use lib.Seq.{get_or-take, length-take-le}
use Rattle.std.specs.Simd.{first_chunks}
use Rattle.std.proofs.lemmas.List.{get_or-drop}
use Rattle.points.specs.Vectors.{le_all, lex}
use Rattle.points.specs.Limits.{max_points, max_bits}
use Rattle.instance.specs.Limits.{max_objectives}
use Rattle.points.specs.Lists.{values_at, Fine, ValuesFine, BitsBelow, RowsRise, RisingAt, RowsApart, Apart, Proper}
use Rattle.instance.proofs.ChunkLaws.{length-chunks}
use Rattle.points.proofs.CompareLaws.{row-values}
use Rattle.points.proofs.ListLaws.{apart_none, none_apart}

module _ (vs : List ℤ) (count : ℕ) (rows : List (List ℤ)) (e : rows ≡ first_chunks 4 (length vs / 4) vs) (l : count ≤ length rows) where
  room : count * 4 ≤ length vs
  room = omega (arith, l, ap length e, length-chunks 4 (length vs / 4) vs)

  row : (k : ℕ) → k < count → get_or (take count rows) k [] ≡ values_at vs k
  row k h =
      get_or-take count rows k [] h
      ∙ (ap (λ (r : List (List ℤ)). get_or r k []) e ∙ row-values vs (length vs / 4) k (omega (arith, room)) (omega arith))

  rows-length : length (take count rows) ≡ count
  rows-length = length-take-le count rows l

  -- ---- RowsRise
  pub rows-rise : RowsRise (take count rows) → RisingAt count vs
  rows-rise r k h = sym (ap₂ lex (row k (omega arith)) (row (k + 1) h)) ∙ r k (omega (arith, rows-length))

  pub rise-rows : RisingAt count vs → RowsRise (take count rows)
  rise-rows r k h =
      let b : k + 1 < count = omega (arith, rows-length) in
      ap₂ lex (row k (omega arith)) (row (k + 1) b) ∙ r k b

  -- ---- RowsApart
  later : (i k : ℕ) → i + 1 + k < count → get_or (drop (i + 1) (take count rows)) k [] ≡ values_at vs (i + 1 + k)
  later i k h = get_or-drop (i + 1) (take count rows) k [] ∙ row (i + 1 + k) h

  pub rows-apart : RowsApart (take count rows) → Apart count vs
  rows-apart a i j p q t =
      let d : i + 1 + (j - (i + 1)) ≡ j = omega arith in
      a i (omega (arith, rows-length)) (j - (i + 1)) (omega (arith, rows-length, length-drop (i + 1) (take count rows)))
      (ap₂ le_all (row i (omega arith)) (later i (j - (i + 1)) (omega arith) ∙ ap (values_at vs) d) ∙ t)

  pub apart-rows : Apart count vs → RowsApart (take count rows)
  apart-rows a i h k b t =
      let q : i + 1 + k < count = omega (arith, rows-length, length-drop (i + 1) (take count rows)) in
      a i (i + 1 + k) (omega arith) q (sym (ap₂ le_all (row i (omega arith)) (later i k q)) ∙ t)

  -- ---- Proper
  pub proper-rows : {objectives n : ℕ} {ms : List ℕ} → 1 ≤ objectives → objectives ≤ max_objectives → n ≤ max_bits → count ≤ max_points → count ≤ length ms
      → ValuesFine objectives (take (count * 4) vs) (length (take (count * 4) vs)) → BitsBelow n (length (take count ms)) (take count ms)
      → RowsRise (take count rows) → RowsApart (take count rows) → Proper objectives n count vs ms
  proper-rows {ms = ms} o o' n' p m fine bits rise apart =
      let value = λ (i : ℕ) (h : i < count * 4). subst (Fine _ i) (get_or-take (count * 4) vs i (pos 0) h) (fine i (omega (arith, length-take-le (count * 4) vs room))) in
      record {
        some_objective = o;
        few_objectives = o';
        few_variables = n';
        few_points = p;
        values_room = room;
        models_room = m;
        in_range = λ i h. (value i h).in_range;
        unused = λ i h. (value i h).unused;
        bits = λ k h. omega (arith, get_or-take count ms k 0 h, bits k (omega (arith, length-take-le count ms m)));
        rising = rows-rise rise;
        apart = apart_none vs (rows-rise rise) (rows-apart apart);
      }

  pub apart-proper : {objectives n : ℕ} {ms : List ℕ} → Proper objectives n count vs ms → RowsApart (take count rows)
  apart-proper p = apart-rows (none_apart vs p.rising p.apart)
