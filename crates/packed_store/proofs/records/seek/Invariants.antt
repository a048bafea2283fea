use Rattle.packed_store.specs.Scan.{Stands}
use Rattle.packed_store.proofs.records.seek.Given as goal

abbrev pub invariant-loop-place : goal.invariant-loop-place
invariant-loop-place l = Stands l.all l.place l.at
