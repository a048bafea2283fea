use Rattle.reading_laws.proofs.Ahead.{first_fault_does_not_look_ahead}
use Rattle.reading_laws.proofs.first_fault_does_not_look_ahead.Goals as goal

pub returns : goal.returns
returns c = record { ahead = first_fault_does_not_look_ahead c.lines_are_read_one_by_one.ensures.lines; answer = c.lines_are_read_one_by_one.ensures.answer }
