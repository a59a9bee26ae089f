use mathlib.Core.Path.{◌≡◌, sym, ap, ◌∙◌}
use Prim.Native.Nat.{ℕ, ◌+◌, ◌-◌, ◌*◌, ◌≤◌, ◌<◌}
use native.Mathlib.Omega.{arith}
use lib.ListN.{length, take, drop}
use Rattle.blocks.specs.Fields.{u16_at}
use Rattle.blocks.specs.Check.{word_sum, ones_sum}
use Rattle.blocks.proofs.CheckLaws.{words-count, word-at, check-start, check-step, check-end}
use Rattle.blocks.proofs.check.check_of.Goals.{In-loop-word, After-get}
use Rattle.blocks.proofs.check.check_of.Goals as goal

-- How many words are gone over.
count : (c : In-loop-word) → length (take (length c.as_chunks.result.0.now - 1) (drop 1 c.as_chunks.result.0.now)) ≡ 255
count c = words-count c.args.block.now c.as_chunks.result.0.now c.as_chunks.ensures.front c.requires

word : (c : After-get) → c.get.result ≡ u16_at c.args.block.now (2 + c.loop-word.word-index * 2)
word c =
    let inside : c.loop-word.word-index < 255 = omega (arith, words-count c.args.block.now c.as_chunks.result.0.now c.as_chunks.ensures.front c.requires, c.loop-word-test.true) in
    c.get.ensures.value ∙ word-at c.args.block.now c.as_chunks.result.0.now c.as_chunks.ensures.front c.requires c.loop-word.word-index inside

pub loop-word-preserved : goal.loop-word-preserved
loop-word-preserved c =
    let i = 2 + c.loop-word.word-index * 2 in
    let inside : i + 2 ≤ 512 = omega (arith, count (goal.at.loop-word-preserved c).In-loop-word, c.loop-word-test.true) in
    let e : i + 2 ≡ 2 + (c.loop-word.word-index + 1) * 2 = omega arith in
    let next = word (goal.at.loop-word-preserved c).After-get in
    let step =
    check-step c.args.block.now i c.loop-word.sum c.get.result (λ j. (c.type_inv.block j).fits) c.requires inside c.loop-word.invariant.0
    c.get.ensures.small next
    in (
      omega (arith, c.carried-sum.ensures, c.get.ensures.small, c.loop-word.invariant.0),
      ap (λ (k : ℕ). ones_sum (c.carried-sum.result + word_sum (drop k c.args.block.now))) (sym e)
          ∙ (ap (λ (s : ℕ). ones_sum (s + word_sum (drop (i + 2) c.args.block.now))) c.carried-sum.ensures ∙ (step ∙ c.loop-word.invariant.1)),
    )

pub returns-clause-value : goal.returns-clause-value
returns-clause-value c =
    let i = 2 + c.loop-word.word-index * 2 in
    let all = words-count c.args.block.now c.as_chunks.result.0.now c.as_chunks.ensures.front c.requires in
    let end : i ≡ 512 = omega (arith, all, c.loop-word-test.false, c.loop-word.auto.word-index-end) in
    let s : c.loop-word.sum ≡ ones_sum (word_sum (drop 2 c.args.block.now)) =
    sym (check-end c.args.block.now i c.loop-word.sum c.requires end c.loop-word.invariant.0) ∙ c.loop-word.invariant.1
    in ap (λ (x : ℕ). 65535 - x) s ∙ sym (check-start c.args.block.now)
