-- Rules that can be written down, and series of them.
use Rattle.std.specs.Prelude.{Bool, true, false, cond, List, [], ◌∷◌, map}
use Rattle.machine.specs.Answers.{Answer, taken, held, ran, refused}
use Rattle.machine.specs.Calls.{Call}
use Rattle.machine.specs.Series.{Rule, Entry, start, turn, Series}

-- always one call; or one call if the seat has read empty contents since its start, and else another
pub data Recipe : Type 0 where
  always : Call → Recipe
  if_read_empty : Call → Call → Recipe

abbrev pub reads_empty : Answer → Bool
reads_empty taken = false
reads_empty (held []) = true
reads_empty (held (b ∷ bytes)) = false
reads_empty (ran bytes d) = false
reads_empty (refused r) = false

abbrev pub has_read_empty : List Answer → Bool
has_read_empty [] = false
has_read_empty (a ∷ l) = cond (reads_empty a) true (has_read_empty l)

abbrev pub rule_of : Recipe → Rule
rule_of (always c) l = c
rule_of (if_read_empty c e) l = cond (has_read_empty l) c e

abbrev pub entry_of : Entry Recipe → Entry Rule
entry_of (start s) = start s
entry_of (turn s recipe) = turn s (rule_of recipe)

abbrev pub series_of : List (Entry Recipe) → Series
series_of lines = map entry_of lines
