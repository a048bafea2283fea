use Rattle.packed_store.proofs.Tables.{one_table, held_at_place}
use Rattle.packed_store.proofs.layout_stands.Goals as goal

pub returns : goal.returns
returns c = record { one_table = one_table; reading = held_at_place }
