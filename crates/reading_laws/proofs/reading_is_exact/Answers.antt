use Rattle.reading_laws.proofs.Exact.{reading_is_exact}
use Rattle.reading_laws.proofs.reading_is_exact.Goals as goal

pub returns : goal.returns
returns c = record { exact = reading_is_exact c.tokens_are_in_order.ensures.order; answer = c.tokens_are_in_order.ensures.answer }
