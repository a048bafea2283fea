use Rattle.std.proofs.Common.{None, arith}
use Rattle.packed_store.proofs.Tables.{set_is_intact, set_is_held}
use Rattle.packed_store.proofs.Scans.{unfilled, holds_of_equals}
use Rattle.packed_store.proofs.records.RecordsLayout.erase.Goals as goal

pub returns-then-place-place_count-clause-held : goal.returns-then-place-place_count-clause-held
returns-then-place-place_count-clause-held c here = holds_of_equals _ _ _ (unfilled c.open_gap.new.all c.open_gap.result _ (omega arith)) (c.open_gap.ensures.fills None tt (omega arith))

pub returns-then-place-place_count-clause-contents : goal.returns-then-place-place_count-clause-contents
returns-then-place-place_count-clause-contents c here = set_is_held _ _ _ None (returns-then-place-place_count-clause-held c here) here

pub returns-then-place-place_count-clause-sound : goal.returns-then-place-place_count-clause-sound
returns-then-place-place_count-clause-sound c ok = set_is_intact _ _ _ None (returns-then-place-place_count-clause-held c (omega arith))
