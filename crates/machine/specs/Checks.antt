-- Why a call is not admitted: the checks, in their order.
use Rattle.std.specs.Prelude.{ℕ, Bool, true, false, List, [], ◌∷◌, length, Some, None, Ok, Err, Option, Result, nat_le, nat_lt}
use Rattle.machine.specs.Policy.{Policy}
use Rattle.machine.specs.Answers.{Refusal, no_object, too_long, no_domain, short_buffer, denied, no_passage}
use Rattle.machine.specs.Calls.{Call, object, act, handed, room, wish}

abbrev pub unless : Bool → Refusal → Option Refusal
unless true r = None
unless false r = Some r

abbrev pub denial : Result (Unit {0}) (ℕ × ℕ) → Option Refusal
denial (Ok granted) = None
denial (Err pair) = Some (denied pair.0 pair.1)

abbrev pub wish_is_domain : Policy → Option ℕ → Bool
wish_is_domain P None = true
wish_is_domain P (Some e) = nat_lt e P.domains

abbrev pub wish_may_pass : Policy → ℕ → ℕ → Option ℕ → Bool
wish_may_pass P d o None = true
wish_may_pass P d o (Some e) = P.pass d o e

-- the first check that fails
abbrev pub first_of : List (Option Refusal) → Option Refusal
first_of [] = None
first_of (Some r ∷ checks) = Some r
first_of (None ∷ checks) = first_of checks

-- For a call from the domain d. None of these checks looks at what an object holds.
-- Before them come those of the seat (20, 21); after them a read or a run may find its object absent (32).
unfoldable pub refusal : Policy → ℕ → Call → Option Refusal
refusal P d c =
    first_of
    (unless (nat_lt (object c) P.objects) no_object ∷
    unless (nat_le (length (handed c)) 64) too_long ∷
    unless (wish_is_domain P (wish c)) no_domain ∷
    unless (nat_le 64 (room c)) short_buffer ∷
    denial (P.verdict (act c) d (object c)) ∷
    unless (wish_may_pass P d (object c) (wish c)) no_passage ∷ [])
