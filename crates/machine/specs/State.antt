-- What the machine holds: the contents of the objects, and sixteen seats.
use Rattle.std.specs.Prelude.{ℕ, cond, List, [], ◌∷◌, ◌++◌, Some, None, Option, ◌==◌}
use Rattle.machine.specs.Answers.{Bytes, Answer}

-- what each object holds; `None` is an absent object
abbrev pub Contents : Type 0
Contents = ℕ → Option Bytes

-- A seat is where a program runs: idle, or in a domain, with the answers since its start, the oldest first.
pub data Seat : Type 0 where
  idle : Seat
  seated : ℕ → List Answer → Seat

-- the seats are those numbered 0 to 15
pub record State : Type 0 where
  pub contents : Contents
  pub seats : ℕ → Seat

-- freshly loaded: any contents, and every seat idle
abbrev pub loaded : Contents → State
loaded m = record { contents = m; seats = λ _. idle }

abbrev pub domain : Seat → Option ℕ
domain idle = None
domain (seated d l) = Some d

abbrev pub answers : Seat → List Answer
answers idle = []
answers (seated d l) = l

-- the list with one more answer
unfoldable pub note : List Answer → Answer → List Answer
note l a = l ++ (a ∷ [])

-- the seats with another at s
abbrev pub put : (ℕ → Seat) → ℕ → Seat → ℕ → Seat
put seats s new k = cond (k == s) new (seats k)
