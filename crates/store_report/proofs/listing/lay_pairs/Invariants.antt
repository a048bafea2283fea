use Rattle.std.proofs.Common.{◌≡◌, ◌*◌, take}
use Rattle.store_report.specs.Listing.{pairs}
use Rattle.store_report.proofs.listing.lay_pairs.Given as goal

abbrev pub invariant-loop-at : goal.invariant-loop-at
invariant-loop-at l = take (2 * l.at) l.digits ≡ pairs (take l.at l.bytes)
