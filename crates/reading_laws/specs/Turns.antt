-- Two texts with a line feed between them are read as the one and then the other.
use Rattle.std.specs.Prelude.{◌≡◌, ℕ, ◌+◌, List, ◌∷◌, ◌++◌, length}
use Rattle.reader.specs.Composed.{Composed}
use Rattle.reader.specs.Reading.{Outcome, read}
use Rattle.reader.specs.Reading.Outcome.{tables, fault}

-- the same outcome, with a fault's place n bytes further on
abbrev pub further : ℕ → Outcome → Outcome
further n (tables c) = tables c
further n (fault reason place) = fault reason (place + n)

-- If u is read, then u, a line feed and v come to what v comes to, read after u. Only the places of v lie further on, by
-- the length of u and the line feed.
abbrev pub TextsJoinedByALineFeedAreReadInTurn : Type 0
TextsJoinedByALineFeedAreReadInTurn = (c d : Composed) (u v : List ℕ) → read c u ≡ tables d → read c (u ++ 10 ∷ v) ≡ further (length u + 1) (read d v)
