-- A trade that is taken out is weakly dominated by a listed one, so what it dominated is not fresh.
-- Invariant: what is left is of the stock, and nothing that dominated something fresh is lost.
use mathlib.Core.Path.{◌≡◌}
use lib.ListN.{length}
use Rattle.advancing.specs.Stocked.{Sifted}
use Rattle.advancing.proofs.choices.sift.Given as goal

abbrev pub invariant-loop-last : goal.invariant-loop-last
invariant-loop-last g l = (length l.points ≡ length l.initial.points) × Sifted l.problem.count l.listed l.initial.points l.stock.count l.points l.last
