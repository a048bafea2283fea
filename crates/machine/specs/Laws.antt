-- Laws of calls, starts and series.
use Rattle.std.specs.Prelude.{◌≡◌, ℕ, ◌<◌, Bool, true, false, ◌≢◌, [], Some}
use Rattle.machine.specs.Policy.{Policy}
use Rattle.machine.specs.Answers.{Answer, refused, Refusal, absent, numbered}
use Rattle.machine.specs.Calls.{Call, read, write, append, create, remove, run, object}
use Rattle.machine.specs.State.{Contents, Seat, idle, seated, State, domain, note, loaded}
use Rattle.machine.specs.Machine.{call, start_seat}
use Rattle.machine.specs.Series.{Series, after}
use Rattle.machine.specs.Possible.{Possible, PossibleSeries}
use Rattle.machine.specs.Flow.{Live}

-- no two refusals have the same number and values
abbrev pub NumbersTellRefusalsApart : Type 0
NumbersTellRefusalsApart = (r s : Refusal) → numbered r ≡ numbered s → r ≡ s

-- the answer joins the list of a seat that runs
abbrev pub noted : Seat → Answer → Seat
noted idle a = idle
noted (seated d l) a = seated d (note l a)

-- nothing is changed from st to st' but that the seat s has one answer more
pub record OnlyNoted (st : State) (s : ℕ) (a : Answer) (st' : State) : Type 0 where
  pub contents_stay : (o : ℕ) → st'.contents o ≡ st.contents o
  pub others_stay : (k : ℕ) → k ≢ s → st'.seats k ≡ st.seats k
  pub seat_notes : s < 16 → st'.seats s ≡ noted (st.seats s) a

abbrev pub RefusalChangesOnlyTheList : Type 0
RefusalChangesOnlyTheList =
    (P : Policy) (st : State) (s : ℕ) (c : Call) (r : Refusal) → (call P st s c).0 ≡ refused r →
    OnlyNoted st s (refused r) (call P st s c).1

-- st' differs from st at one object and one seat at most
pub record TouchesOnly (o s : ℕ) (st st' : State) : Type 0 where
  pub other_objects_stay : (j : ℕ) → j ≢ o → st'.contents j ≡ st.contents j
  pub other_seats_stay : (k : ℕ) → k ≢ s → st'.seats k ≡ st.seats k

abbrev pub CallTouchesOneObjectAndOneSeat : Type 0
CallTouchesOneObjectAndOneSeat =
    (P : Policy) (st : State) (s : ℕ) (c : Call) → TouchesOnly (object c) s st (call P st s c).1

-- a start touches no object and no other seat; it puts the seat into the default domain, with no answers
pub record StartsOne (P : Policy) (s : ℕ) (st st' : State) : Type 0 where
  pub objects_stay : (o : ℕ) → st'.contents o ≡ st.contents o
  pub other_seats_stay : (k : ℕ) → k ≢ s → st'.seats k ≡ st.seats k
  pub begins_anew : s < 16 → st'.seats s ≡ seated P.first []

abbrev pub StartTouchesOneSeat : Type 0
StartTouchesOneSeat = (P : Policy) (st : State) (s : ℕ) → StartsOne P s st (start_seat P st s).1

-- the calls that change an object
abbrev pub changing : Call → Bool
changing (read o n) = false
changing (write o bytes) = true
changing (append o bytes) = true
changing (create o) = true
changing (remove o) = true
changing (run o w n) = false

abbrev pub with_contents : State → Contents → State
with_contents st m = record { contents = m; seats = st.seats }

-- write, append, create and remove have the same answer whatever the objects hold: none tells whether its object was there
abbrev pub ChangingTellsNothing : Type 0
ChangingTellsNothing =
    (P : Policy) (st : State) (m : Contents) (s : ℕ) (c : Call) → changing c ≡ true →
    (call P (with_contents st m) s c).0 ≡ (call P st s c).0

-- of all refusals only `absent` depends on what the objects hold
abbrev pub OnlyAbsenceLooks : Type 0
OnlyAbsenceLooks =
    (P : Policy) (st : State) (m : Contents) (s : ℕ) (c : Call) (r : Refusal) → r ≢ absent → (call P st s c).0 ≡ refused r →
    (call P (with_contents st m) s c).0 ≡ refused r

abbrev pub AnswerDependsOnSeatAndObject : Type 0
AnswerDependsOnSeatAndObject =
    (P : Policy) (st st' : State) (s : ℕ) (c : Call) → domain (st.seats s) ≡ domain (st'.seats s) →
    st.contents (object c) ≡ st'.contents (object c) →
    (call P st s c).0 ≡ (call P st' s c).0

-- two states that differ in the seats' lists at most
pub record SameButLists (st st' : State) : Type 0 where
  pub same_contents : (o : ℕ) → st.contents o ≡ st'.contents o
  pub same_domains : (k : ℕ) → domain (st.seats k) ≡ domain (st'.seats k)

-- a controller need keep no lists: answers, contents and domains never depend on them
pub record ListsUnseen (x y : Answer × State) : Type 0 where
  pub same_answer : x.0 ≡ y.0
  pub same_state : SameButLists x.1 y.1

abbrev pub ListsPlayNoPart : Type 0
ListsPlayNoPart =
    (P : Policy) (st st' : State) (s : ℕ) (c : Call) → SameButLists st st' → ListsUnseen (call P st s c) (call P st' s c)

-- in every state that is reached from a beginning
abbrev pub SeatsStayLive : Type 0
SeatsStayLive =
    (P : Policy) (m : Contents) (series : Series) (k d : ℕ) → domain ((after P (loaded m) series).seats k) ≡ Some d → Live P d

abbrev pub ContentsStayPossible : Type 0
ContentsStayPossible =
    (P : Policy) (m : Contents) (series : Series) → Possible P m → PossibleSeries series →
    Possible P (after P (loaded m) series).contents
