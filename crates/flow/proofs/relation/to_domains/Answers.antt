use Rattle.flow.proofs.BlankRows.{marks_led}
use Rattle.flow.proofs.relation.to_domains.Goals as goal

pub returns : goal.returns
returns c = marks_led c.args.marks.now c.copy_from_slice.new.self _ c.copy_from_slice.ensures.after c.copy_from_slice.ensures.len
