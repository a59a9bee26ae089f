use mathlib.Core.Path.{refl, sym, ap, ◌∙◌}
use Prim.Native.Nat.{◌+◌}
use native.Mathlib.Omega.{arith}
use lib.ListN.{length, get_or, drop}
use Rattle.words.specs.declared.Place.{Place}
use Rattle.words.specs.Tokens.{marks_at}
use Rattle.words.proofs.ByteLaws.{begins-true}
use Rattle.words.proofs.MarkLaws.{skip_step, skip_stop, skip-past, skipped-at}
use Rattle.words.proofs.tokens.blanks_end.Goals as goal

pub loop-i-init : goal.loop-i-init
loop-i-init c = refl

pub returns-then-begins_token : goal.returns-then-begins_token
returns-then-begins_token c =
    let b = sym c.begins_token.ensures ∙ c.if-begins_token.true in
    record {
      high = omega arith;
      skipped = skipped-at c.args.text.now c.args.place c.loop-i.i
          (c.loop-i.invariant ∙ skip_stop c.args.text.now c.loop-i.p c.loop-i.i c.loop-i-test.true b)
          (λ _. (begins-true c.loop-i.p (get_or c.args.text.now c.loop-i.i 0) b).1);
    }

pub loop-i-preserved : goal.loop-i-preserved
loop-i-preserved c =
    c.loop-i.invariant
    ∙ skip_step c.args.text.now c.loop-i.p c.loop-i.i c.loop-i-test.true (sym c.begins_token.ensures ∙ c.if-begins_token.false)
    ∙ ap (λ (p : Place). marks_at p (drop (c.loop-i.i + 1) c.args.text.now)) (sym c.next_place-p.ensures)

pub returns : goal.returns
returns c =
    record {
      high = omega arith;
      skipped = skipped-at c.args.text.now c.args.place (length c.args.text.now)
          (c.loop-i.invariant ∙ skip-past c.args.text.now c.loop-i.p c.loop-i.i c.loop-i-test.false)
          (λ h. absurd (omega arith));
    }
