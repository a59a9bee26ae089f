use lib.ListN.{length}
use Rattle.std.specs.Prelude.{Some, None}
use Rattle.narrowing.specs.Parts.{Cuts}
use Rattle.capping.specs.Caps.{vec}
use Rattle.seeking.proofs.SeekLaws.{want-ceilings, want-off, want-forces, below-front}
use Rattle.seeking.proofs.reduce.Goals as goal

pub returns-in_err-s : goal.returns-in_err-s
returns-in_err-s g c =
    let P = c.args.problem.now in
    let gathered = c.args.gathered.now in
    rw (c.from_residual-in_err-s.ensures, Cuts)
    (want-ceilings P c.args.listed.now gathered (length gathered) c.args.limit.now c.args.p c.loop-r.q c.loop-r.invariant c.in_ok-r.r _ None
    c.in_ok-r.ensures (λ x m bits. record { meets = m; under = λ i l. P.ceiled.bound i l x bits m }) c.in_err-s.ensures)

pub returns-in_err-cap : goal.returns-in_err-cap
returns-in_err-cap g c =
    let P = c.args.problem.now in
    let gathered = c.args.gathered.now in
    let held = want-ceilings P c.args.listed.now gathered (length gathered) c.args.limit.now c.args.p c.loop-r.q c.loop-r.invariant c.in_ok-r.r _
    (Some c.in_ok-s.s) c.in_ok-r.ensures (λ x m bits. record { meets = m; under = λ i l. P.ceiled.bound i l x bits m }) c.in_ok-s.ensures in
    rw (c.from_residual-in_err-cap.ensures, Cuts)
    (want-off P c.args.listed.now gathered (length gathered) c.args.limit.now c.args.p c.in_ok-s.s held c.in_err-cap.ensures)

pub returns-in_err-q : goal.returns-in_err-q
returns-in_err-q g c =
    let P = c.args.problem.now in
    let gathered = c.args.gathered.now in
    let held = want-ceilings P c.args.listed.now gathered (length gathered) c.args.limit.now c.args.p c.loop-r.q c.loop-r.invariant c.in_ok-r.r _
    (Some c.in_ok-s.s) c.in_ok-r.ensures (λ x m bits. record { meets = m; under = λ i l. P.ceiled.bound i l x bits m }) c.in_ok-s.ensures in
    rw (c.from_residual-in_err-q.ensures, Cuts)
    (want-forces P c.args.listed.now gathered (length gathered) c.args.limit.now c.args.p c.in_ok-s.s held _ None
    (λ x z u. record { meets = u.meets; under = below-front P.count c.in_ok-cap.cap (vec P x) (c.in_ok-cap.ensures x z u) }) c.in_err-q.ensures)

pub loop-r-preserved : goal.loop-r-preserved
loop-r-preserved g c =
    let P = c.args.problem.now in
    let gathered = c.args.gathered.now in
    let held = want-ceilings P c.args.listed.now gathered (length gathered) c.args.limit.now c.args.p c.loop-r.q c.loop-r.invariant c.in_ok-r.r _
    (Some c.in_ok-s.s) c.in_ok-r.ensures (λ x m bits. record { meets = m; under = λ i l. P.ceiled.bound i l x bits m }) c.in_ok-s.ensures in
    want-forces P c.args.listed.now gathered (length gathered) c.args.limit.now c.args.p c.in_ok-s.s held _ (Some c.in_ok-q.q)
    (λ x z u. record { meets = u.meets; under = below-front P.count c.in_ok-cap.cap (vec P x) (c.in_ok-cap.ensures x z u) }) c.in_ok-q.ensures
