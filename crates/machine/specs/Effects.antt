-- What an admitted call does: to its object, to the seat's domain, and what it answers.
use Rattle.std.specs.Prelude.{ℕ, cond, [], ◌++◌, take, Some, None, Option, ◌==◌}
use Rattle.machine.specs.Policy.{Policy}
use Rattle.machine.specs.Answers.{Bytes, Answer, taken, held, ran, refused, absent}
use Rattle.machine.specs.Calls.{Call, read, write, append, create, remove, run, object}
use Rattle.machine.specs.State.{Contents}

-- The object: a write and an append leave an absent one absent, an append keeps the first 64 bytes,
-- a create leaves a present one as it is.
abbrev pub change : Call → Option Bytes → Option Bytes
change (read o n) v = v
change (write o bytes) None = None
change (write o bytes) (Some old) = Some bytes
change (append o bytes) None = None
change (append o bytes) (Some old) = Some (take 64 (old ++ bytes))
change (create o) None = Some []
change (create o) (Some old) = Some old
change (remove o) v = None
change (run o w n) v = v

-- all other objects stay
abbrev pub changed : Contents → Call → Contents
changed m c o = cond (o == object c) (change c (m o)) (m o)

-- Where a run leads: to the wish; without one along the only auto passage, or nowhere if there is none.
abbrev pub or_stay : ℕ → Option ℕ → ℕ
or_stay d None = d
or_stay d (Some e) = e

abbrev pub target : Policy → ℕ → ℕ → Option ℕ → ℕ
target P d o None = or_stay d (P.auto d o)
target P d o (Some e) = e

-- The answer, where the object holds v: only a read and a run tell of it.
abbrev pub reply_read : Option Bytes → Answer
reply_read None = refused absent
reply_read (Some b) = held b

abbrev pub reply_run : ℕ → Option Bytes → Answer
reply_run e None = refused absent
reply_run e (Some b) = ran b e

abbrev pub reply : Policy → ℕ → Option Bytes → Call → Answer
reply P d v (read o n) = reply_read v
reply P d v (write o bytes) = taken
reply P d v (append o bytes) = taken
reply P d v (create o) = taken
reply P d v (remove o) = taken
reply P d v (run o w n) = reply_run (target P d o w) v

-- The domain then held: only a run moves the seat, and an absent object moves nobody.
abbrev pub if_present : ℕ → ℕ → Option Bytes → ℕ
if_present d e None = d
if_present d e (Some b) = e

abbrev pub moved : Policy → ℕ → Option Bytes → Call → ℕ
moved P d v (read o n) = d
moved P d v (write o bytes) = d
moved P d v (append o bytes) = d
moved P d v (create o) = d
moved P d v (remove o) = d
moved P d v (run o w n) = if_present d (target P d o w) v
