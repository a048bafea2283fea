use Rattle.reach.specs.Walks.{among}
use Rattle.reach.proofs.Starting.{started_none, started_other, started_source, start_has_room}
use Rattle.reach.proofs.search.start.Goals as goal
use Rattle.reach.proofs.search.start.Goals.{then-is_source, else-is_source}

pub loop-v-init : goal.loop-v-init
loop-v-init c = started_none (among c.args.from.now)

pub find-requires-clause-room : goal.find-requires-clause-room
find-requires-clause-room c = start_has_room _ _ _ c.loop-v.invariant c.loop-v-test.true

pub loop-v-preserved : goal.loop-v-preserved
loop-v-preserved c =
    elim c.if-is_source.branch [
      | then-is_source w ↦ rw (w.search-is, w.find.ensures) (started_source _ _ _ c.loop-v.invariant c.loop-v-test.true w.if-is_source.true)
      | else-is_source w ↦ rw w.search-is (started_other _ _ _ c.loop-v.invariant c.loop-v-test.true w.if-is_source.false)
    ]
