use Rattle.std.proofs.Common.{refl}
use Rattle.scan.proofs.Lineation.{lines_are_read_one_by_one, texts_join_by_a_line_feed}
use Rattle.scan.proofs.laws.lines_are_read_one_by_one.Goals as goal

pub returns : goal.returns
returns c = record { lines = lines_are_read_one_by_one; joined = texts_join_by_a_line_feed; answer = refl }
