use Rattle.std.proofs.Common.{◌∙◌, arith}
use Rattle.std.proofs.lemmas.Bool.{eq-eqb}
use Rattle.packed_store.proofs.Tables.{test_is_exact}
use Rattle.packed_store.proofs.Scans.{scan_of_equals, intact_at_memory_end, intact_at_mark}
use Rattle.packed_store.proofs.records.RecordsLayout.is_sound.Goals as goal

pub returns-then-end-all : goal.returns-then-end-all
returns-then-end-all c =
    let z = scan_of_equals _ _ _ _ c.place_count.ensures c.find-end.ensures in
    test_is_exact _ _ (eq-eqb _ _ c.if-end-all.true ∙ intact_at_memory_end c.args.all.now _ z (omega arith))

pub returns-else-end-all : goal.returns-else-end-all
returns-else-end-all c =
    let z = scan_of_equals _ _ _ _ c.place_count.ensures c.find-end.ensures in
    test_is_exact _ _ (intact_at_mark c.args.all.now _ z (omega arith))
