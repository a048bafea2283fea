-- Where a policy lets knowledge flow: live domains, links, walks along links, and chains from one set of objects to another.
use Rattle.std.specs.Prelude.{◌≡◌, ℕ, zero, suc, ◌+◌, ◌<◌, ◌≤◌, Bool, true, List, [], ◌∷◌, ◌++◌, ◌==◌}
use Rattle.machine.specs.Policy.{Policy, Act, reading, writing, appending, making, granted}

-- the domains that a seat can come to: the default domain, and those that a live domain may pass to
pub data Live (P : Policy) : ℕ → Type 0 where
  live_first : Live P P.first
  live_pass : {d e : ℕ} (o : ℕ) → Live P d → P.pass d o e ≡ true → Live P e

pub data Node : Type 0 where
  obj : ℕ → Node
  dom : ℕ → Node

-- the number that stands for a node: an object's own, below 128; for a domain 128 more than its own
abbrev pub number : Node → ℕ
number (obj o) = o
number (dom d) = 128 + d

-- the ways to change an object
pub data Change : Type 0 where
  by_writing by_appending by_making : Change

abbrev pub act_of : Change → Act
act_of by_writing = writing
act_of by_appending = appending
act_of by_making = making

-- One link, always of a live domain d: it learns of an object that it may read (r or x); it passes to another domain, by some object;
-- it alters an object that it may change (w, a or c).
pub data Link (P : Policy) : Node → Node → Type 0 where
  learns : {d o : ℕ} → Live P d → o < P.objects → granted P reading d o ≡ true → Link P (obj o) (dom d)
  passes : {d e : ℕ} (o : ℕ) → Live P d → P.pass d o e ≡ true → Link P (dom d) (dom e)
  alters : {d o : ℕ} (how : Change) → Live P d → o < P.objects → granted P (act_of how) d o ≡ true → Link P (dom d) (obj o)

-- a walk from a along n links
pub data Walk (P : Policy) (a : Node) : ℕ → Node → Type 0 where
  here : Walk P a zero a
  on : {n : ℕ} {b c : Node} → Walk P a n b → Link P b c → Walk P a (suc n) c

-- the nodes of a walk, in order
abbrev pub trail : {P : Policy} {a b : Node} {n : ℕ} → Walk P a n b → List Node
trail {a = a} here = a ∷ []
trail (on {c = c} w k) = trail w ++ (c ∷ [])

-- a set of objects
abbrev pub Objects : Type 0
Objects = ℕ → Bool

-- the objects of one type
abbrev pub of_type : Policy → ℕ → Objects
of_type P A o = P.typ o == A

-- a walk of n links from an object of the one set to an object of the other; of no links where the sets share an object
pub record Chain (P : Policy) (From To : Objects) (n : ℕ) : Type 0 where
  pub from : ℕ
  pub to : ℕ
  pub from_is : from < P.objects
  pub to_is : to < P.objects
  pub from_in : From from ≡ true
  pub to_in : To to ≡ true
  pub walk : Walk P (obj from) n (obj to)

abbrev pub NoChain : Policy → Objects → Objects → Type 0
NoChain P From To = (n : ℕ) → Chain P From To n → ⊥

-- a chain of n links, and none with fewer
pub record Shortest (P : Policy) (From To : Objects) (n : ℕ) : Type 0 where
  pub chain : Chain P From To n
  pub least : (k : ℕ) → Chain P From To k → n ≤ k
