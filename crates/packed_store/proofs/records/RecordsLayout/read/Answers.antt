use Rattle.std.proofs.Common.{◌≡◌, ◌<◌, None, drop, refl, rules, arith}
use Rattle.packed_store.specs.Layout.{packed_places}
use Rattle.packed_store.specs.Reading.{record_at}
use Rattle.packed_store.specs.ReadingLaws.{beyond_absent}
use Rattle.packed_store.specs.Scan.{Found}
use Rattle.packed_store.proofs.Scans.{no_record_is_absent, record_is_contents, record_is_as_long}
use Rattle.packed_store.proofs.records.RecordsLayout.read.Goals as goal

pub returns-then-place-place_count-clause-length : goal.returns-then-place-place_count-clause-length
returns-then-place-place_count-clause-length c room = search (rules, beyond_absent)

pub returns-then-place-place_count-clause-buffer : goal.returns-then-place-place_count-clause-buffer
returns-then-place-place_count-clause-buffer c room = search (rules, beyond_absent)

pub returns-in_err-len-clause-length : goal.returns-in_err-len-clause-length
returns-in_err-len-clause-length c room =
    let here : c.args.place < packed_places c.args.all.now = omega arith in
    let n : record_at c.args.place (drop c.find-start.result c.args.all.now) ≡ None = search rules in
    let e = no_record_is_absent _ _ _ here c.find-start.ensures n in
    rw e (search rules)

pub returns-in_err-len-clause-buffer : goal.returns-in_err-len-clause-buffer
returns-in_err-len-clause-buffer c room =
    let here : c.args.place < packed_places c.args.all.now = omega arith in
    let n : record_at c.args.place (drop c.find-start.result c.args.all.now) ≡ None = search rules in
    let e = no_record_is_absent _ _ _ here c.find-start.ensures n in
    rw e refl

pub returns-clause-length : goal.returns-clause-length
returns-clause-length c room =
    let here : c.args.place < packed_places c.args.all.now = omega arith in
    let f : Found c.args.all.now c.find-start.result c.args.place c.in_ok-len.len = search rules in
    let e = record_is_contents _ _ _ here c.find-start.ensures _ f in
    let l = record_is_as_long _ _ _ here c.find-start.ensures _ f in
    rw (e, l) refl

pub returns-clause-buffer : goal.returns-clause-buffer
returns-clause-buffer c room =
    let here : c.args.place < packed_places c.args.all.now = omega arith in
    let f : Found c.args.all.now c.find-start.result c.args.place c.in_ok-len.len = search rules in
    let e = record_is_contents _ _ _ here c.find-start.ensures _ f in
    let l = record_is_as_long _ _ _ here c.find-start.ensures _ f in
    rw (e, l) (search rules)
