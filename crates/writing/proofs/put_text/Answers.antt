use mathlib.Core.Path.{sym, ap}
use mathlib.Core.List.{◌++◌}
use Prim.Native.Nat.{◌+◌, ◌-◌}
use native.Mathlib.Omega.{arith}
use Rattle.instance.specs.Lists.{tabulate}
use Rattle.instance.specs.Rows.{Entry}
use Rattle.instance.specs.Meaning.{entry_at}
use Rattle.instance.proofs.InstanceLaws.{entry-fine, entry-as}
use Rattle.writing.specs.Answers.{text_of}
use Rattle.instance.specs.Structs.{entry_of}
use Rattle.writing.specs.Writing.{statement_text, statements_text}
use Rattle.writing.proofs.RestLaws.{Rest, rest_all, rest-as, rest-room, rest_put, rest-none}
use Rattle.writing.proofs.TextLaws.{statements-more, statements-none}
use Rattle.writing.proofs.TableTextLaws.{entry-room, text-entries}
use Rattle.writing.proofs.put_text.Goals.{After-at}
use Rattle.writing.proofs.put_text.Goals as goal

-- what is left is the statement of the entry read and the others
left : (c : After-at) → Rest c.args.out.now 0 (text_of c.args.terms.now c.args.rows.now) c.loop-k.out c.loop-k.at (statement_text (entry_of c.args.terms.now c.at.result) ++ statements_text (tabulate (entry_at c.args.terms.now c.args.rows.now) (c.loop-k.k + 1) (c.args.n - (c.loop-k.k + 1))))
left c =
    let rest = statements_text (tabulate (entry_at c.args.terms.now c.args.rows.now) (c.loop-k.k + 1) (c.args.n - (c.loop-k.k + 1))) in
    rest-as (ap (λ (e : Entry). statement_text e ++ rest) (sym (entry-as c.args.terms.now c.args.rows.now c.loop-k.k c.at.result c.at.ensures)))
    (rest-as (statements-more (entry_at c.args.terms.now c.args.rows.now) c.loop-k.k c.args.n (omega arith)) c.loop-k.invariant)

pub loop-k-init : goal.loop-k-init
loop-k-init c =
    rest-as (sym (text-entries c.requires.instance c.args.n c.requires.n_value))
    (rest_all c.args.out.now 0 (text_of c.args.terms.now c.args.rows.now) (omega (arith, c.requires.rows_in_bounds)))

pub at-requires : goal.at-requires
at-requires c =
    entry-fine c.requires.instance c.loop-k.k (omega (arith, c.requires.n_value))

pub put_statement-at-requires : goal.put_statement-at-requires
put_statement-at-requires c = record {
  count_in_bounds = entry-room c.requires.instance c.loop-k.k (omega (arith, c.requires.n_value)) c.at.result c.at.ensures;
  e_in_bounds = rest-room (statement_text (entry_of c.args.terms.now c.at.result))
      (statements_text (tabulate (entry_at c.args.terms.now c.args.rows.now) (c.loop-k.k + 1) (c.args.n - (c.loop-k.k + 1))))
      (left c);
}

pub loop-k-preserved : goal.loop-k-preserved
loop-k-preserved c =
    rest_put (statement_text (entry_of c.args.terms.now c.at.result))
    (statements_text (tabulate (entry_at c.args.terms.now c.args.rows.now) (c.loop-k.k + 1) (c.args.n - (c.loop-k.k + 1))))
    (left (goal.at.loop-k-preserved c).After-at)
    (c.put_statement-at.ensures.left, c.put_statement-at.ensures.next)

pub returns : goal.returns
returns c =
    let p = rest-none (rest-as (statements-none (entry_at c.args.terms.now c.args.rows.now) c.loop-k.k c.args.n (omega arith)) c.loop-k.invariant) in record { left = p.0; next = omega (arith, p.1) }
