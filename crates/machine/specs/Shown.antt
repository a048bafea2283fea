-- What a controller shows of the machine: the contents and each seat's domain. It keeps no lists of answers.
use Rattle.std.specs.Prelude.{◌≡◌, ℕ, Option}
use Rattle.machine.specs.Policy.{Policy}
use Rattle.machine.specs.Answers.{Answer}
use Rattle.machine.specs.Calls.{Call}
use Rattle.machine.specs.State.{Contents, State, domain}
use Rattle.machine.specs.Places.{call_on, start_on}

-- the contents m and the domains ds are those of the state, whatever its seats have been told
pub record Shows (st : State) (m : Contents) (ds : ℕ → Option ℕ) : Type 0 where
  pub contents_are : (o : ℕ) → st.contents o ≡ m o
  pub domains_are : (k : ℕ) → domain (st.seats k) ≡ ds k

pub record ComesTo (x : Answer × State) (a : Answer) (m : Contents) (ds : ℕ → Option ℕ) : Type 0 where
  pub answer_is : x.0 ≡ a
  pub shows : Shows x.1 m ds

-- From every state of the machine that shows m and ds, this call over a store of so many places is answered by a
-- and leads to a state that shows m' and ds'.
abbrev pub CallsAs : Policy → ℕ → Contents → (ℕ → Option ℕ) → ℕ → Call → Answer → Contents → (ℕ → Option ℕ) → Type 0
CallsAs P places m ds s c a m' ds' = (st : State) → Shows st m ds → ComesTo (call_on P places st s c) a m' ds'

abbrev pub StartsAs : Policy → ℕ → Contents → (ℕ → Option ℕ) → ℕ → Answer → Contents → (ℕ → Option ℕ) → Type 0
StartsAs P places m ds s a m' ds' = (st : State) → Shows st m ds → ComesTo (start_on P places st s) a m' ds'
