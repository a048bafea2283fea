-- A fault is found without a look at the lines behind it.
use Rattle.std.specs.Prelude.{◌≡◌, ℕ, ◌≤◌, List, ◌∷◌, ◌++◌, length}
use Rattle.reader.specs.Composed.{Composed}
use Rattle.reader.specs.Reading.{read}
use Rattle.reader.specs.Reading.Outcome.{fault}
use Rattle.reader.specs.declared.reason.Reason.{Reason}

-- If the first fault of a text lies before a line feed or at it, then whatever stands behind that line feed, the text has
-- the same first fault.
abbrev pub FirstFaultDoesNotLookAhead : Type 0
FirstFaultDoesNotLookAhead = (c : Composed) (u v w : List ℕ) (reason : Reason) (place : ℕ) → read c (u ++ 10 ∷ v) ≡ fault reason place → place ≤ length u → read c (u ++ 10 ∷ w) ≡ fault reason place
