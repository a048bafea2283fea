-- The machine: a call and a start, each with its answer and the state then.
use Rattle.std.specs.Prelude.{ℕ, cond, List, [], Some, None, Option, nat_lt}
use Rattle.machine.specs.Policy.{Policy}
use Rattle.machine.specs.Answers.{Answer, taken, refused, Refusal, no_seat, seat_idle}
use Rattle.machine.specs.Calls.{Call, object}
use Rattle.machine.specs.State.{Seat, idle, seated, State, note, put}
use Rattle.machine.specs.Checks.{refusal}
use Rattle.machine.specs.Effects.{changed, reply, moved}

-- A call of the seat s, which is in the domain d and has had the answers l. A refusal changes nothing, but joins the list.
abbrev pub outcome : Policy → State → ℕ → ℕ → List Answer → Call → Option Refusal → Answer × State
outcome P st s d l c (Some r) = (
  refused r,
  record { contents = st.contents; seats = put st.seats s (seated d (note l (refused r))) },
)
outcome P st s d l c None = (
  reply P d (st.contents (object c)) c,
  record {
    contents = changed st.contents c;
    seats = put st.seats s (seated (moved P d (st.contents (object c)) c) (note l (reply P d (st.contents (object c)) c)));
  },
)

-- by what is at the seat s: an idle one notes nothing
unfoldable pub call_at : Policy → State → ℕ → Call → Seat → Answer × State
call_at P st s c idle = (refused seat_idle, st)
call_at P st s c (seated d l) = outcome P st s d l c (refusal P d c)

-- a call of the seat s
unfoldable pub call : Policy → State → ℕ → Call → Answer × State
call P st s c = cond (nat_lt s 16) (call_at P st s c (st.seats s)) (refused no_seat, st)

-- the seat s in the default domain, with no answers yet
abbrev pub fresh : Policy → State → ℕ → State
fresh P st s = record { contents = st.contents; seats = put st.seats s (seated P.first []) }

-- a start of the seat s, also of one that runs
unfoldable pub start_seat : Policy → State → ℕ → Answer × State
start_seat P st s = cond (nat_lt s 16) (taken, fresh P st s) (refused no_seat, st)
