-- Series of starts and turns, with any rules.
use Rattle.std.specs.Prelude.{ℕ, List, [], ◌∷◌}
use Rattle.machine.specs.Policy.{Policy}
use Rattle.machine.specs.Answers.{Answer}
use Rattle.machine.specs.Calls.{Call}
use Rattle.machine.specs.State.{State, answers}
use Rattle.machine.specs.Machine.{call, start_seat}

-- A rule takes the answers that its seat has had since its start, and yields a call. It may be any function.
abbrev pub Rule : Type 0
Rule = List Answer → Call

-- an entry of a series: the start of a seat, or a turn of a seat with its rule, which is given in the form R
pub data Entry (R : Type 0) : Type 0 where
  start : ℕ → Entry R
  turn : ℕ → R → Entry R

abbrev pub Series : Type 0
Series = List (Entry Rule)

-- the answer to an entry, and the state then
abbrev pub step : Policy → State → Entry Rule → Answer × State
step P st (start s) = start_seat P st s
step P st (turn s rule) = call P st s (rule (answers (st.seats s)))

-- the state after a series, and the answers to its entries, for any way to take a step
abbrev pub after_by : (State → Entry Rule → Answer × State) → State → Series → State
after_by go st [] = st
after_by go st (e ∷ es) = after_by go (go st e).1 es

abbrev pub told_by : (State → Entry Rule → Answer × State) → State → Series → List Answer
told_by go st [] = []
told_by go st (e ∷ es) = (go st e).0 ∷ told_by go (go st e).1 es

abbrev pub after : Policy → State → Series → State
after P = after_by (step P)

abbrev pub told : Policy → State → Series → List Answer
told P = told_by (step P)
