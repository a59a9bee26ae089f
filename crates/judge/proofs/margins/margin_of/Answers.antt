-- Every kind but `>=` and `<=` has the distance.
use Rattle.std.proofs.Common.{rules, ◌≡◌}
use Rattle.instance.specs.Kinds.{number_of}
use Rattle.judge.proofs.MarginLaws.{margin-equal}
use Rattle.judge.proofs.margins.margin_of.Goals as goal

pub returns-in-Objective : goal.returns-in-Objective
returns-in-Objective c =
    let two : number_of c.args.kind ≡ 2 → ⊥ = search rules in
    let three : number_of c.args.kind ≡ 3 → ⊥ = search rules in
    let e = margin-equal (number_of c.args.kind) c.args.s c.args.bound two three in
    search rules
