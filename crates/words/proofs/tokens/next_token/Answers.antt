-- What stands after the blanks: the end, a `;`, or a word up to its end; each is one law of the marks.
use borrow.Author.Rules.{rules}
use mathlib.Core.Path.{◌∙◌}
use Prim.Native.Nat.{◌<◌}
use native.Mathlib.Omega.{arith}
use lib.ListN.{length}
use Rattle.words.proofs.MarkLaws.{none_end, stop-next, word-next}
use Rattle.words.proofs.tokens.next_token.Goals as goal

pub returns-then-is_empty : goal.returns-then-is_empty
returns-then-is_empty c = c.skip_blanks-start.ensures.same ∙ none_end c.skip_blanks-start.result.now (search rules)

pub returns-then-start-eq59 : goal.returns-then-start-eq59
returns-then-start-eq59 c =
    let some : 0 < length c.skip_blanks-start.result.now = search rules in
    let n = stop-next c.skip_blanks-start.result.now some c.if-start-eq59.true in
    (c.skip_blanks-start.ensures.same ∙ n.0, omega (arith, n.1, c.skip_blanks-start.ensures.few))

pub returns : goal.returns
returns c =
    let some : 0 < length c.skip_blanks-start.result.now = search rules in
    let n = word-next c.skip_blanks-start.result.now c.word_end-end.result c.word_end-end.ensures some (c.skip_blanks-start.ensures.found some) c.if-start-eq59.false in
    (c.skip_blanks-start.ensures.same ∙ n.0, omega (arith, n.1, c.skip_blanks-start.ensures.few))
