use Rattle.std.proofs.Common.{arith}
use Rattle.slot_store.specs.Frame.{Unmarked}
use Rattle.slot_store.proofs.Writes.{next_mark_cleared, unmarked_is_absent, unmarked_is_marked}
use Rattle.slot_store.proofs.slots.SlotsLayout.erase_all.Goals as goal

pub loop-slot-preserved : goal.loop-slot-preserved
loop-slot-preserved c = next_mark_cleared c.loop-slot.all c.loop-slot.slot _ _ (omega arith) c.loop-slot.invariant (omega arith) (omega arith)

pub returns : goal.returns
returns c =
    let none : Unmarked c.loop-slot.all = λ k lt. c.loop-slot.invariant k (omega arith) in
    record { contents = unmarked_is_absent _ none; sound = unmarked_is_marked _ none }
