-- Charged bounds, then the limit, then the trades, listed and gathered: each only lowers caps.
use Prim.Native.Nat.{ℕ, ◌<◌, ◌^◌}
use mathlib.Core.Path.{◌≡◌}
use native.Mathlib.Omega.{arith}
use lib.ListN.{length, get_or, replicate}
use Rattle.std.proofs.lemmas.List.{get_or-replicate}
use Rattle.std.specs.Prelude.{None}
use Rattle.capping.specs.declared.problems.Problem.{Problem}
use Rattle.capping.specs.Caps.{Before, Seeks, Capped}
use Rattle.capping.proofs.CapLaws.{capped-low, capped-listed, capped-gathered}
use Rattle.capping.proofs.caps.Goals as goal

wide : {K : ℕ} (P : Problem K) (i : ℕ) → i < P.count → get_or (replicate K 1099511627776) i 0 ≡ 2 ^ 40
wide {K} P i l = get_or-replicate K i 1099511627776 0 (omega (arith, P.few))

pub returns-in_err-cap : goal.returns-in_err-cap
returns-in_err-cap g c =
    let P = c.args.problem.now in
    let W = Seeks P c.args.listed.now c.args.gathered.now (length c.args.gathered.now) c.args.limit in
    rw (c.from_residual.ensures, Capped)
    (capped-low P c.args.p c.charges-low.result (replicate g.row.K 1099511627776) (Before P.count c.args.limit) W None c.charges-low.ensures (wide P)
    (λ x u. (u.meets, u.sought.before)) c.in_err-cap.ensures)

pub returns-in_err-cap-2 : goal.returns-in_err-cap-2
returns-in_err-cap-2 g c =
    let P = c.args.problem.now in
    let gathered = c.args.gathered.now in
    rw (c.from_residual-in_err-cap-2.ensures, Capped)
    (capped-listed P c.args.p c.args.listed.now gathered (length gathered) c.args.limit c.charges-low.result (replicate g.row.K 1099511627776)
    c.in_ok-cap.cap c.charges-low.ensures (wide P) c.in_ok-cap.ensures c.in_err-cap-2.ensures)

pub returns : goal.returns
returns g c =
    let P = c.args.problem.now in
    let gathered = c.args.gathered.now in
    capped-gathered P c.args.p c.args.listed.now gathered (length gathered) c.args.limit c.charges-low.result (replicate g.row.K 1099511627776)
    c.in_ok-cap.cap c.charges-low.ensures (wide P) c.in_ok-cap.ensures c.in_ok-cap-2.cap c.points-2.result c.in_ok-cap-2.ensures c.points-2.ensures
