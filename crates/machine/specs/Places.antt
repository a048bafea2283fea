-- The machine over a store with a number of places. A store that has not a place for every object serves nobody:
-- every start and every call is refused by 25, before all other checks, and nothing changes. (No seat runs there that could
-- note the answer, since its start was refused too.)
use Rattle.std.specs.Prelude.{◌≡◌, ℕ, ◌<◌, ◌≤◌, cond, List, nat_lt}
use Rattle.std.specs.List.{AllByRecursion}
use Rattle.machine.specs.Policy.{Policy}
use Rattle.machine.specs.Answers.{Answer, refused, few_places}
use Rattle.machine.specs.Calls.{Call}
use Rattle.machine.specs.State.{State}
use Rattle.machine.specs.Machine.{call, start_seat}
use Rattle.machine.specs.Series.{Entry, Rule, Series, step, after_by, told_by, after, told}

abbrev pub if_placed : Policy → ℕ → State → Answer × State → Answer × State
if_placed P places st served = cond (nat_lt places P.objects) (refused few_places, st) served

abbrev pub call_on : Policy → ℕ → State → ℕ → Call → Answer × State
call_on P places st s c = if_placed P places st (call P st s c)

abbrev pub start_on : Policy → ℕ → State → ℕ → Answer × State
start_on P places st s = if_placed P places st (start_seat P st s)

abbrev pub step_on : Policy → ℕ → State → Entry Rule → Answer × State
step_on P places st e = if_placed P places st (step P st e)

abbrev pub after_on : Policy → ℕ → State → Series → State
after_on P places = after_by (step_on P places)

abbrev pub told_on : Policy → ℕ → State → Series → List Answer
told_on P places = told_by (step_on P places)

-- ── Laws ──

-- over a store with a place for every object the machine is as it is without counting places
pub record Served (P : Policy) (places : ℕ) (st : State) (series : Series) : Type 0 where
  pub same_answers : told_on P places st series ≡ told P st series
  pub same_state : after_on P places st series ≡ after P st series

abbrev pub EnoughPlacesServeAll : Type 0
EnoughPlacesServeAll =
    (P : Policy) (places : ℕ) (st : State) (series : Series) → P.objects ≤ places → Served P places st series

-- over a store without a place for every object nothing ever changes, and every answer is 25
pub record Unserved (st : State) (told : List Answer) (st' : State) : Type 0 where
  pub nothing_changes : st' ≡ st
  pub all_refused : AllByRecursion (λ a. a ≡ refused few_places) told

abbrev pub FewPlacesServeNobody : Type 0
FewPlacesServeNobody =
    (P : Policy) (places : ℕ) (st : State) (series : Series) → places < P.objects →
    Unserved st (told_on P places st series) (after_on P places st series)
