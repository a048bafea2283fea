use Rattle.std.proofs.Common.{arith}
use Rattle.packed_store.proofs.Scans.{scan_passes_absent, scan_passes_record}
use Rattle.packed_store.proofs.records.seek.Goals as goal

pub loop-place-preserved : goal.loop-place-preserved
loop-place-preserved c =
    elim c.match-record_length.branch [
      | goal.in-Some w ↦ rw w.at-is (scan_passes_record c.args.all.now c.loop-place.place c.loop-place.at (omega arith) c.loop-place.invariant _ w.in-Some.ensures)
      | goal.in_default w ↦ rw w.at-is (scan_passes_absent c.args.all.now c.loop-place.place c.loop-place.at (omega arith) c.loop-place.invariant w.in_default.ensures)
    ]
