use Rattle.std.proofs.Common.{Some, arith}
use Rattle.packed_store.proofs.Tables.{set_is_intact, set_is_held}
use Rattle.packed_store.proofs.Scans.{written, holds_of_equals}
use Rattle.packed_store.proofs.records.RecordsLayout.write.Goals as goal

pub returns-clause-held : goal.returns-clause-held
returns-clause-held c here short =
    let o = c.open_gap-start.ensures in
    let r = o.room in
    let l = o.long in
    holds_of_equals _ _ _ (written c.open_gap-start.new.all c.args.bytes.now c.copy_from_slice.new.self c.open_gap-start.result c.args.place _ _ _ (omega arith) c.copy_from_slice.ensures.after (omega arith) (omega arith) (omega arith))
    (o.fills (Some c.args.bytes.now) short (omega arith))

pub returns-clause-contents : goal.returns-clause-contents
returns-clause-contents c here short = set_is_held _ _ _ _ (returns-clause-held c here short) here

pub returns-clause-sound : goal.returns-clause-sound
returns-clause-sound c ok = set_is_intact _ _ _ _ (returns-clause-held c (omega arith) (omega arith))
