use Rattle.std.proofs.Common.{refl}
use Rattle.scan.proofs.Marks.{marks_stand_for_bytes}
use Rattle.scan.proofs.laws.marks_stand_for_bytes.Goals as goal

pub returns : goal.returns
returns c = record { marks = marks_stand_for_bytes; answer = refl }
