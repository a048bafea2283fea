use Rattle.std.proofs.Common.{arith}
use Rattle.packed_store.proofs.Scans.{scan_of_equals, tail_before_end, gap_fits, gap_opened}
use Rattle.packed_store.proofs.records.open_gap.Goals as goal

pub copy_within-requires : goal.copy_within-requires
copy_within-requires c =
    let z = scan_of_equals _ _ _ _ c.place_count-count.ensures c.seek-end.ensures in
    let forward = tail_before_end _ _ _ _ _ c.requires.in_range c.find-gap.ensures c.seek-tail.ensures z in
    let fits = gap_fits _ _ _ _ _ _ c.requires.in_range c.requires.small c.find-gap.ensures c.seek-tail.ensures z in
    record { start_le_end = omega arith; in_bounds = omega (arith, c.seek-end.ensures.within); dest_in_bounds = omega arith; not_exhausted = tt }

pub overflow_sub-end : goal.overflow_sub-end
overflow_sub-end c =
    let z = scan_of_equals _ _ _ _ c.place_count-count.ensures c.seek-end.ensures in
    tail_before_end _ _ _ _ _ c.requires.in_range c.find-gap.ensures c.seek-tail.ensures z

pub overflow_add-to-2 : goal.overflow_add-to-2
overflow_add-to-2 c =
    let z = scan_of_equals _ _ _ _ c.place_count-count.ensures c.seek-end.ensures in
    omega (arith, gap_fits _ _ _ _ _ _ c.requires.in_range c.requires.small c.find-gap.ensures c.seek-tail.ensures z)

pub returns : goal.returns
returns c =
    let z = scan_of_equals _ _ _ _ c.place_count-count.ensures c.seek-end.ensures in
    gap_opened _ _ _ _ _ _ c.requires.in_range c.requires.small c.find-gap.ensures c.seek-tail.ensures z _ _ _ _ c.copy_within.ensures.after c.mark_end.ensures (omega arith) (omega arith)
