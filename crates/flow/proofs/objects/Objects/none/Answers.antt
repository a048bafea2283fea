use Rattle.flow.proofs.Marks.{blank}
use Rattle.flow.proofs.objects.Objects.none.Goals as goal

pub returns : goal.returns
returns c o = blank 128 o
