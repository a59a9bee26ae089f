-- The word, then the number.
use mathlib.Core.List.{◌++◌}
use Rattle.decimal.specs.Decimal.{decimal}
use Rattle.writing.proofs.RestLaws.{Put, rest_all, rest-put-all, rest_put}
use Rattle.lines.proofs.put_word.Goals as goal

pub returns-clause-left : goal.returns-clause-left
returns-clause-left c =
    let word : Put c.args.out.now c.args.at c.args.word.now c.put_bytes-from.new.out c.put_bytes-from.result = (c.put_bytes-from.ensures.left, c.put_bytes-from.ensures.next) in
    let rest = rest_put c.args.word.now (decimal c.args.x) (rest_all c.args.out.now c.args.at (c.args.word.now ++ decimal c.args.x) c.requires) word in
    (rest-put-all rest (c.put_decimal.ensures.left, c.put_decimal.ensures.next)).0
