use Rattle.std.proofs.Common.{◌<◌, ◌≤◌, length, arith, length-set, length-take, get_or-set_other, rules}
use Rattle.std.proofs.lemmas.List.{places}
use Rattle.std.proofs.lemmas.Slice.{overwrites}
use Rattle.slot_store.specs.Layout.{slot_places}
use Rattle.slot_store.proofs.Writes.{put_is_held, put_is_marked}
use Rattle.slot_store.proofs.slots.SlotsLayout.write.Goals as goal

pub returns-clause-frame : goal.returns-clause-frame
returns-clause-frame c here short =
    record {
      long = search (rules, places);
      marked = search (rules, places);
      other = λ j out. grind (arith, places, get_or-set_other, length-set, length-take);
    }

pub returns-clause-bytes : goal.returns-clause-bytes
returns-clause-bytes c here short = search (rules, overwrites)

pub returns-clause-contents : goal.returns-clause-contents
returns-clause-contents c ok here short = put_is_held _ _ _ _ here short ok (returns-clause-frame c here short) (returns-clause-bytes c here short)

pub returns-clause-sound : goal.returns-clause-sound
returns-clause-sound c ok =
    let here : c.args.place < slot_places c.args.all.now = omega arith in
    let short : length c.args.bytes.now ≤ 64 = omega arith in
    put_is_marked _ _ _ _ here short ok (returns-clause-frame c here short)
