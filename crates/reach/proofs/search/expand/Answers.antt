use Rattle.std.proofs.Common.{sym, rules}
use Rattle.reach.proofs.Expanding.{expanding_kept, expanding_found, expanding_has_room}
use Rattle.reach.proofs.search.expand.Goals as goal
use Rattle.reach.proofs.search.expand.Goals.{then-is_none+then-linked, else-is_none, else-is_none-via-then-is_none+else-linked, else-is_none-via-else-is_none}

pub find-requires-clause-room : goal.find-requires-clause-room
find-requires-clause-room g c =
    expanding_has_room _ _ _ _ _ _ _ c.loop-v.invariant c.loop-v-test.true (search rules) (sym c.if-linked.ensures)

pub loop-v-preserved : goal.loop-v-preserved
loop-v-preserved g c =
    elim c.if-is_none.branch [
      | then-is_none+then-linked w ↦
          rw (w.search-is, w.find.ensures)
          (expanding_found _ _ _ _ _ _ _ c.loop-v.invariant c.loop-v-test.true (search rules) (sym w.if-linked.ensures))
      | else-is_none w ↦
          rw w.search-is
          (expanding_kept _ _ _ _ _ _ _ c.loop-v.invariant c.loop-v-test.true
          (elim w.else-is_none.branch [
            | else-is_none-via-then-is_none+else-linked w' ↦ λ _. sym w'.if-linked.ensures
            | else-is_none-via-else-is_none w' ↦ λ e. search rules
          ]))
    ]
