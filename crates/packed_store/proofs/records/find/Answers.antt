use Rattle.packed_store.proofs.Scans.{scan_starts}
use Rattle.packed_store.proofs.records.find.Goals as goal

pub seek-requires-clause-begins : goal.seek-requires-clause-begins
seek-requires-clause-begins c = scan_starts c.args.all.now
