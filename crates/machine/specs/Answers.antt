-- What a call is answered, and the numbers of the refusals.
use Rattle.std.specs.Prelude.{ℕ, List, Some, None, Option}

abbrev pub Bytes : Type 0
Bytes = List ℕ

pub data Refusal : Type 0 where
  no_seat : Refusal
  seat_idle : Refusal
  no_object : Refusal
  too_long : Refusal
  no_domain : Refusal
  few_places : Refusal
  short_buffer : Refusal
  -- the length of the first path that failed, and the letter lacking there
  denied : ℕ → ℕ → Refusal
  no_passage : Refusal
  absent : Refusal

-- the number of each refusal, and the pair that a denial adds
abbrev pub numbered : Refusal → ℕ × Option (ℕ × ℕ)
-- a seat above 15
numbered no_seat = (20, None)
-- a seat that was not started
numbered seat_idle = (21, None)
numbered no_object = (22, None)
-- more than 64 bytes handed over
numbered too_long = (23, None)
-- the wish is no domain
numbered no_domain = (24, None)
-- the store has fewer places than the policy has objects
numbered few_places = (25, None)
-- a buffer of less than 64 bytes
numbered short_buffer = (26, None)
numbered (denied length letter) = (30, Some (length, letter))
-- the wish is no passage of the seat's domain by this object
numbered no_passage = (31, None)
-- the object is absent
numbered absent = (32, None)

pub data Answer : Type 0 where
  -- of a start, and of a write, an append, a create and a remove that are granted
  taken : Answer
  -- of a read: what the object holds
  held : Bytes → Answer
  -- of a run: what the object holds, and the domain then held
  ran : Bytes → ℕ → Answer
  refused : Refusal → Answer
