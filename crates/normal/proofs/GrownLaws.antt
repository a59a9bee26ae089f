-- Runs that grow by half rows, one after the other. Assumes nothing.
use mathlib.Core.Path.{◌≡◌, refl, sym, ap, ◌∙◌, subst}
use mathlib.Core.Bool.{Bool, true, false}
use mathlib.Core.List.{List, [], ◌∷◌, ◌++◌, append_assoc, append-nil}
use Prim.Native.Nat.{ℕ, ◌+◌, ◌≤◌}
use native.Mathlib.Omega.{arith}
use lib.IntN.{ℤ}
use lib.ListN.{length, length-append}
use Rattle.charging.specs.declared.rows.Term.{Term as HalfTerm}
use Rattle.normal.specs.declared.Half.{Half}
use Rattle.normal.specs.Rows.{HalfRow, all_halves, Laid}
use Rattle.instance.specs.Structs.{entry_of}
use Rattle.instance.specs.declared.entries.Entry.{Entry as EntryNumbers}
use Rattle.normal.specs.Grown.{Grown, Rooms, if_wanted, half_row}
use Rattle.normal.proofs.LaidLaws.{halves-length}

pub all_halves-append : (xs ys : List HalfRow) → all_halves (xs ++ ys) ≡ all_halves xs ++ all_halves ys
unfolding all_halves
all_halves-append [] ys = refl
all_halves-append (x ∷ xs) ys = ap (λ (l : List Half). x.terms ++ l) (all_halves-append xs ys) ∙ sym (append_assoc x.terms (all_halves xs) (all_halves ys))

-- some, and then others
pub grown-then : {xs ys : List HalfRow} {starts starts' starts'' : List ℕ} {laid laid' laid'' : List HalfTerm} {needs needs' needs'' : List ℕ} {halves used halves' used' halves'' used'' : ℕ}
    → Grown xs starts starts' laid laid' needs needs' halves used halves' used' → Grown ys starts' starts'' laid' laid'' needs' needs'' halves' used' halves'' used''
    → Grown (xs ++ ys) starts starts'' laid laid'' needs needs'' halves used halves'' used''
grown-then {xs} {ys} {starts} {starts'} {starts''} {laid} {laid'} {laid''} {needs} {needs'} {needs''} {halves} {used} {halves'} {used'} {halves''} {used''} p q = record {
  starts_same = q.starts_same ∙ p.starts_same;
  laid_same = q.laid_same ∙ p.laid_same;
  needs_same = q.needs_same ∙ p.needs_same;
  halves_more = omega (arith, q.halves_more, p.halves_more, length-append xs ys);
  used_more = omega (arith, q.used_more, p.used_more, ap length (all_halves-append xs ys), length-append (all_halves xs) (all_halves ys));
  more = λ hs l. subst (λ (x : List HalfRow). Laid x starts'' laid'' needs'' halves'' used'') (append_assoc hs xs ys) (q.more (hs ++ xs) (p.more hs l));
}

-- a half row at most, and its terms at most
pub wanted-few : (want : Bool) (r : HalfRow) → (length (if_wanted want r) ≤ 1) × (length (all_halves (if_wanted want r)) ≤ length r.terms)
unfolding all_halves
wanted-few true r = (omega arith, omega (arith, ap length (append-nil r.terms)))
wanted-few false r = (omega arith, omega arith)

-- after the plain half row there is room for the turned one
pub room-left : (ts : List ℤ) (e : EntryNumbers) {starts starts' : List ℕ} {laid laid' : List HalfTerm} {needs needs' : List ℕ} {halves used halves' used' : ℕ}
    → Rooms starts laid needs (halves + 2) (used + (e.count + e.count)) → Grown (half_row false (entry_of ts e) ∷ []) starts starts' laid laid' needs needs' halves used halves' used'
    → Rooms starts' laid' needs' (halves' + 1) (used' + e.count)
room-left ts e m g = record {
  starts_room = omega (arith, m.starts_room, g.starts_same, g.halves_more);
  laid_room = omega (arith, m.laid_room, g.laid_same, g.used_more, (wanted-few true (half_row false (entry_of ts e))).1, halves-length ts e.first e.count false);
  needs_room = omega (arith, m.needs_room, g.needs_same, g.halves_more);
}
