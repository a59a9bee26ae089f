-- What the numeral says, with the sign that is known.
use Rattle.words.proofs.NumberLaws.{digits-fit, opposite-fit, digits-plain, digits-opposite}
use Rattle.words.proofs.numbers.read_digits.Goals as goal

pub overflow_cast-size : goal.overflow_cast-size
overflow_cast-size c = digits-fit c.args.word.now c.in_ok-size.field-0 c.in_ok-size.ensures

pub overflow_sub-result : goal.overflow_sub-result
overflow_sub-result c = opposite-fit c.args.word.now c.in_ok-size.field-0 c.in_ok-size.ensures

pub returns-then-negative : goal.returns-then-negative
returns-then-negative c = digits-opposite c.args.word.now c.in_ok-size.field-0 c.in_ok-size.ensures c.args.negative c.if-negative.true

pub returns-else-negative : goal.returns-else-negative
returns-else-negative c = digits-plain c.args.word.now c.in_ok-size.field-0 c.in_ok-size.ensures c.args.negative c.if-negative.false
