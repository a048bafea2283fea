-- What settling tables answers.
use Rattle.std.specs.Prelude.{◌≡◌, Some, None, Ok, Err, Result}
use Rattle.reader.specs.Composed.{Composed as Tabled}
use Rattle.reader.specs.declared.reason.Reason.{Reason}
use Rattle.draft.specs.Composing.{tabled}
use Rattle.draft.specs.Endings.{Verdict}
use Rattle.draft.specs.declared.settled.Composed.{Composed}

abbrev pub Settles : Tabled → Result Composed Reason → Type 0
Settles c (Ok d) = (tabled d ≡ c) × Verdict c.tables None
Settles c (Err e) = Verdict c.tables (Some e)
