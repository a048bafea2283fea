use Rattle.std.proofs.Common.{refl}
use Rattle.machine.proofs.calls_change_little.Goals as goal
use Rattle.machine.proofs.Outcomes.{refusal_notes, call_touches, start_touches, enough_serve_all, few_serve_nobody}

pub returns : goal.returns
returns c = record { refused = refusal_notes; touches = call_touches; starts = start_touches; served = enough_serve_all; unserved = few_serve_nobody; answer = refl }
