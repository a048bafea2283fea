use Rattle.packed_store.proofs.Tables.{fresh_is_intact, fresh_is_absent}
use Rattle.packed_store.proofs.records.RecordsLayout.erase_all.Goals as goal

pub returns : goal.returns
returns c = record { contents = fresh_is_absent _ _ c.mark_end.ensures; sound = fresh_is_intact _ _ c.mark_end.ensures }
