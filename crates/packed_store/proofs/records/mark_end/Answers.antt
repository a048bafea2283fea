use Rattle.std.proofs.Common.{sym, arith}
use Rattle.std.proofs.lemmas.List.{set_past}
use Rattle.packed_store.proofs.records.mark_end.Goals as goal

pub returns-else-end-all : goal.returns-else-end-all
returns-else-end-all c = sym (set_past c.args.all.now c.args.end 255 (omega arith))
