use mathlib.Core.Path.{sym, subst}
use borrow.Author.Rules.{rules}
use Rattle.instance.specs.Parts.{EntryPlaced}
use Rattle.instance.proofs.TestLaws.{refused, accepted}
use Rattle.instance.proofs.TableLaws.{terms_before-zero, terms_before-step, entries_none, entries-more, entries-placed}
use Rattle.instance.proofs.counts.total_of.Goals.{Else-not-is_placed}
use Rattle.instance.proofs.counts.total_of.Goals as goal

placed : (c : Else-not-is_placed) → EntryPlaced c.args.rows.now c.loop-k.k c.loop-k.total
placed c = accepted c.is_placed.ensures c.if-not-is_placed.false

pub loop-k-init : goal.loop-k-init
loop-k-init c = (entries_none c.args.rows.now, sym (terms_before-zero c.args.rows.now))

pub returns-then-not-is_placed : goal.returns-then-not-is_placed
returns-then-not-is_placed c h =
    refused c.is_placed.ensures c.if-not-is_placed.true
    (subst (EntryPlaced c.args.rows.now c.loop-k.k)
    (sym c.loop-k.invariant.1) (entries-placed h c.loop-k.k c.loop-k-test.true))

pub loop-k-preserved : goal.loop-k-preserved
loop-k-preserved c = (
  entries-more c.loop-k.invariant.0 (subst (EntryPlaced c.args.rows.now c.loop-k.k) c.loop-k.invariant.1 (placed (goal.at.loop-k-preserved c).Else-not-is_placed)),
  search (rules, terms_before-step),
)
