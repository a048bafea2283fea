-- The six calls of a seat, and what each hands over and asks.
use Rattle.std.specs.Prelude.{ℕ, [], None, Option}
use Rattle.machine.specs.Policy.{Act, reading, writing, appending, making, running}
use Rattle.machine.specs.Answers.{Bytes}

-- The first number is the object; the last number of a read and of a run is the length of the buffer for the contents.
pub data Call : Type 0 where
  -- gives the contents
  read : ℕ → ℕ → Call
  -- replaces the contents of a present object
  write : ℕ → Bytes → Call
  -- adds to a present object
  append : ℕ → Bytes → Call
  -- makes an absent object present and empty
  create : ℕ → Call
  -- makes the object absent
  remove : ℕ → Call
  -- gives the contents, and may pass the seat to another domain: to its wish, if it carries one
  run : ℕ → Option ℕ → ℕ → Call

abbrev pub object : Call → ℕ
object (read o n) = o
object (write o bytes) = o
object (append o bytes) = o
object (create o) = o
object (remove o) = o
object (run o w n) = o

abbrev pub act : Call → Act
act (read o n) = reading
act (write o bytes) = writing
act (append o bytes) = appending
act (create o) = making
act (remove o) = making
act (run o w n) = running

-- the bytes that the call hands over
abbrev pub handed : Call → Bytes
handed (read o n) = []
handed (write o bytes) = bytes
handed (append o bytes) = bytes
handed (create o) = []
handed (remove o) = []
handed (run o w n) = []

-- the length of the buffer; a call that needs none is never short of it
abbrev pub room : Call → ℕ
room (read o n) = n
room (write o bytes) = 64
room (append o bytes) = 64
room (create o) = 64
room (remove o) = 64
room (run o w n) = n

abbrev pub wish : Call → Option ℕ
wish (read o n) = None
wish (write o bytes) = None
wish (append o bytes) = None
wish (create o) = None
wish (remove o) = None
wish (run o w n) = w
