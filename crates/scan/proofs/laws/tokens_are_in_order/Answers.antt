use Rattle.std.proofs.Common.{refl}
use Rattle.scan.proofs.Order.{tokens_are_in_order}
use Rattle.scan.proofs.laws.tokens_are_in_order.Goals as goal

pub returns : goal.returns
returns c = record { order = tokens_are_in_order; answer = refl }
