-- By the unit count that the place is among.
use Rattle.std.proofs.Common.{arith}
use Rattle.small_tables.specs.ListingLaws.{place_1, place_2, place_3, place_4, place_5, no_place}
use Rattle.small_tables.proofs.listing.site_at.Goals as goal

pub returns-in-0 : goal.returns-in-0
returns-in-0 c = place_1 _ (omega (arith, c.in-0.is))

pub returns-in-1-to-2 : goal.returns-in-1-to-2
returns-in-1-to-2 c = place_2 _ (omega arith) (omega arith)

pub returns-in-3-to-10 : goal.returns-in-3-to-10
returns-in-3-to-10 c = place_3 _ (omega arith) (omega arith)

pub returns-in-11-to-74 : goal.returns-in-11-to-74
returns-in-11-to-74 c = place_4 _ (omega arith) (omega arith)

pub returns-in-75-to-1098 : goal.returns-in-75-to-1098
returns-in-75-to-1098 c = place_5 _ (omega arith) (omega arith)

pub returns-in_default : goal.returns-in_default
returns-in_default c = no_place _ (omega arith)
