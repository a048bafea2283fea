use Rattle.std.proofs.Common.{refl}
use Rattle.machine.proofs.states_stay_sound.Goals as goal
use Rattle.machine.proofs.Series.{seats_stay_live, contents_stay_possible}

pub returns : goal.returns
returns c = record { live = seats_stay_live; possible = contents_stay_possible; answer = refl }
