use Rattle.store.proofs.Refusals.{lowest_refuses, refusal_changes_nothing, one_place_changes}
use Rattle.store.proofs.meaning_stands.Goals as goal

pub returns : goal.returns
returns c = record { refusals = lowest_refuses; refused = refusal_changes_nothing; taken = one_place_changes }
