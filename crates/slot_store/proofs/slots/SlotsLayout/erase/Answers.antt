use Rattle.slot_store.proofs.Writes.{mark_cleared, clear_is_held}
use Rattle.slot_store.proofs.slots.SlotsLayout.erase.Goals as goal

pub returns-then-place-place_count-clause-frame : goal.returns-then-place-place_count-clause-frame
returns-then-place-place_count-clause-frame c here = mark_cleared c.args.all.now c.args.place here

pub returns-then-place-place_count-clause-contents : goal.returns-then-place-place_count-clause-contents
returns-then-place-place_count-clause-contents c ok here = clear_is_held _ _ _ here ok (returns-then-place-place_count-clause-frame c here)
