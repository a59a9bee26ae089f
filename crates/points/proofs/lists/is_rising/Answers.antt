-- Neighbours are compared as arrays, which is the order of vectors.
use Rattle.std.proofs.Common.{rules}
use Rattle.std.proofs.lemmas.Fn.{always_returns_same}
use Rattle.points.specs.Vectors.{lex}
use Rattle.points.proofs.CompareLaws.{lex-cmp, rises}
use Rattle.points.proofs.lists.is_rising.Goals as goal

pub returns : goal.returns
returns c =
    rises c.args.rows.now c.is_sorted_by.result (c.is_sorted_by.ensures.cases lex (always_returns_same _ _ _ (λ a r f k. search (rules, lex-cmp))))
