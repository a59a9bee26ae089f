use mathlib.Core.Path.{◌≡◌, ap}
use Prim.Native.Nat.{◌+◌, ◌-◌}
use native.Mathlib.Omega.{arith}
use lib.ListN.{length, length-append}
use Rattle.instance.specs.Lists.{tabulate}
use Rattle.instance.specs.Rows.{Entry}
use Rattle.instance.specs.Meaning.{entry_at}
use Rattle.instance.proofs.InstanceLaws.{entry-fine, entry-as}
use Rattle.instance.specs.Structs.{entry_of}
use Rattle.writing.specs.Writing.{statement_text, statements_text}
use Rattle.writing.proofs.TextLaws.{statements-more, statements-none}
use Rattle.writing.proofs.TableTextLaws.{entry-room, text-entries, text-most}
use Rattle.writing.proofs.text_len.Goals.{After-at}
use Rattle.writing.proofs.text_len.Goals as goal

-- the statements that are left are that of the entry read and the others
step : (c : After-at) → length (statements_text (tabulate (entry_at c.args.terms.now c.args.rows.now) c.loop-k.k (c.args.n - c.loop-k.k))) ≡ length (statement_text (entry_of c.args.terms.now c.at.result)) + length (statements_text (tabulate (entry_at c.args.terms.now c.args.rows.now) (c.loop-k.k + 1) (c.args.n - (c.loop-k.k + 1))))
step c =
    let one : length (statement_text (entry_of c.args.terms.now c.at.result)) ≡ length (statement_text (entry_at c.args.terms.now c.args.rows.now c.loop-k.k)) =
    ap (λ (e : Entry). length (statement_text e)) (entry-as c.args.terms.now c.args.rows.now c.loop-k.k c.at.result c.at.ensures) in
    omega (
      arith,
      ap length (statements-more (entry_at c.args.terms.now c.args.rows.now) c.loop-k.k c.args.n (omega arith)),
      length-append (statement_text (entry_at c.args.terms.now c.args.rows.now c.loop-k.k)) (statements_text (tabulate (entry_at c.args.terms.now c.args.rows.now) (c.loop-k.k + 1) (c.args.n - (c.loop-k.k + 1)))),
    )

pub loop-k-init : goal.loop-k-init
loop-k-init c = omega (arith, ap length (text-entries c.requires.instance c.args.n c.requires.n_value))

pub at-requires : goal.at-requires
at-requires c =
    entry-fine c.requires.instance c.loop-k.k (omega (arith, c.requires.n_value))

pub statement_len-sum-requires : goal.statement_len-sum-requires
statement_len-sum-requires c = record { count_in_bounds = entry-room c.requires.instance c.loop-k.k (omega (arith, c.requires.n_value)) c.at.result c.at.ensures; e_len_bound = omega (arith, step c, text-most c.requires.instance) }

pub overflow_add-sum : goal.overflow_add-sum
overflow_add-sum c = omega (arith, step (goal.at.overflow_add-sum c).After-at, text-most c.requires.instance)

pub loop-k-preserved : goal.loop-k-preserved
loop-k-preserved c = omega (arith, step (goal.at.loop-k-preserved c).After-at)

pub returns : goal.returns
returns c =
    omega (arith, ap length (statements-none (entry_at c.args.terms.now c.args.rows.now) c.loop-k.k c.args.n (omega arith)))
