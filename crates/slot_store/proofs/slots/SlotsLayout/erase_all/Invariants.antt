use Rattle.std.proofs.Common.{◌≡◌, ℕ, ◌<◌}
use Rattle.slot_store.specs.Layout.{mark}
use Rattle.slot_store.proofs.slots.SlotsLayout.erase_all.Given as goal

abbrev pub invariant-loop-slot : goal.invariant-loop-slot
invariant-loop-slot l = (k : ℕ) → k < l.slot → mark l.all k ≡ 0
