-- Invariant (Listing, Stocked): m points are listed, they are how the front begins, and the stock accounts for all that is fit.
use mathlib.Core.Path.{◌≡◌}
use lib.ListN.{length, take}
use Rattle.advancing.specs.Stocked.{Stocked}
use Rattle.front.proofs.ListingLaws.{Listing}
use Rattle.front.proofs.listing.list_points.Given as goal

abbrev pub invariant-loop-m : goal.invariant-loop-m
invariant-loop-m l =
    (length l.listed ≡ 1024) × (length l.points ≡ 1025)
    × Listing l.terms l.rows l.problem l.initial.values l.initial.models l.m l.values l.models (take l.m l.listed)
    × Stocked l.problem (take l.m l.listed) l.points l.stock
