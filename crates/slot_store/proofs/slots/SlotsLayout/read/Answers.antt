use Rattle.std.proofs.Common.{rules}
use Rattle.slot_store.specs.LayoutLaws.{contents_here, beyond_absent}
use Rattle.slot_store.proofs.slots.SlotsLayout.read.Goals as goal

pub returns-then-place-place_count-clause-length : goal.returns-then-place-place_count-clause-length
returns-then-place-place_count-clause-length c ok room = search (rules, beyond_absent)

pub returns-then-place-place_count-clause-buffer : goal.returns-then-place-place_count-clause-buffer
returns-then-place-place_count-clause-buffer c ok room = search (rules, beyond_absent)

pub returns-in_err-checked_sub-clause-length : goal.returns-in_err-checked_sub-clause-length
returns-in_err-checked_sub-clause-length c ok room = search (rules, contents_here)

pub returns-in_err-checked_sub-clause-buffer : goal.returns-in_err-checked_sub-clause-buffer
returns-in_err-checked_sub-clause-buffer c ok room = search (rules, contents_here)

pub returns-clause-length : goal.returns-clause-length
returns-clause-length c ok room = search (rules, contents_here)

pub returns-clause-buffer : goal.returns-clause-buffer
returns-clause-buffer c ok room = search (rules, contents_here)
