use Rattle.std.proofs.Common.{true, sym, refl, ◌∙◌}
use Rattle.label.proofs.Shows.{letter_put, letter_passed}
use Rattle.label.proofs.show.RightsDisplay.fmt.Goals as goal
use Rattle.label.proofs.show.RightsDisplay.fmt.Goals.{then-has+in_ok-write_char, else-has}

pub loop-letter-preserved : goal.loop-letter-preserved
loop-letter-preserved g c plain =
    let so_far = c.loop-letter.invariant plain in
    elim c.if-has.branch [
      | then-has+in_ok-write_char w ↦
          letter_put g.W.Write.write_str_gives c.args.self.now _ _ _ _ _ c.loop-letter-test.true (sym c.has.ensures ∙ w.if-has.true) w.f-is so_far
          (w.in_ok-write_char.ensures.writes so_far.plain (refl {a = true}))
      | else-has w ↦ letter_passed g.W.Write.write_str_gives c.args.self.now _ _ _ _ c.loop-letter-test.true (sym c.has.ensures ∙ w.if-has.false) w.f-is so_far
    ]
