-- What can stand in a store and be handed over by a program: bytes, and at most 64 of them in an object.
use Rattle.std.specs.Prelude.{ℕ, ◌<◌, ◌≤◌, List, length, Some, None, Option}
use Rattle.std.specs.List.{AllByRecursion}
use Rattle.machine.specs.Policy.{Policy}
use Rattle.machine.specs.Answers.{Bytes, Answer}
use Rattle.machine.specs.Calls.{Call, handed}
use Rattle.machine.specs.State.{Contents}
use Rattle.machine.specs.Series.{Entry, Rule, Series, start, turn}

abbrev pub Byte : ℕ → Type 0
Byte n = n < 256

-- absent, or 0 to 64 bytes
abbrev pub PossiblePlace : Option Bytes → Type 0
PossiblePlace None = Unit {0}
PossiblePlace (Some b) = (length b ≤ 64) × AllByRecursion Byte b

abbrev pub Possible : Policy → Contents → Type 0
Possible P m = (o : ℕ) → o < P.objects → PossiblePlace (m o)

-- a program hands over bytes; there may be too many of them, which the machine refuses
abbrev pub PossibleCall : Call → Type 0
PossibleCall c = AllByRecursion Byte (handed c)

abbrev pub PossibleEntry : Entry Rule → Type 0
PossibleEntry (start s) = Unit {0}
PossibleEntry (turn s rule) = (l : List Answer) → PossibleCall (rule l)

abbrev pub PossibleSeries : Series → Type 0
PossibleSeries es = AllByRecursion PossibleEntry es
