use Rattle.std.proofs.Common.{◌≡◌, length, string_bytes}
use Rattle.store_report.specs.Listing.{listing}
use Rattle.store_report.proofs.listing.list.Given as goal

abbrev pub invariant-loop-place : goal.invariant-loop-place
invariant-loop-place g l =
    (length l.block ≡ 64) × (string_bytes l.text ≡ listing (g.S.Store.contents l.store) l.place)
