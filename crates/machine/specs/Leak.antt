-- A chain as a leak: two beginnings that differ in the chain's first object only, and a series after which they differ in its last.
-- In the first run every object is present and empty, and stays so. In the second the chain's first object holds a byte.
-- Two seats take turns. At each domain of the chain one of them, the bearer, is in that domain in both runs, and has read
-- empty contents in the first run and not in the second. It passes this on by an object that it may change: in the second run
-- only, the object is made other than empty; the other seat, brought into the next domain, reads it; and it is made present again.
use Rattle.std.specs.Prelude.{◌≡◌, ℕ, ◌<◌, Bool, true, false, cond, not, List, [], ◌∷◌, ◌++◌, Some, None, Option, ◌==◌}
use Rattle.std.specs.List.{AllByRecursion}
use Rattle.machine.specs.Policy.{Policy}
use Rattle.machine.specs.Answers.{Answer, taken, held, ran, refused, absent}
use Rattle.machine.specs.Calls.{Call, read, write, append, create, remove, run, object, wish, room}
use Rattle.machine.specs.State.{Contents, loaded}
use Rattle.machine.specs.Checks.{wish_is_domain}
use Rattle.machine.specs.Series.{Entry, start, turn, Series, after, told}
use Rattle.machine.specs.Possible.{Possible, PossibleCall, PossibleSeries}
use Rattle.machine.specs.Flow.{Live, live_first, live_pass, Node, obj, dom, Change, by_writing, by_appending, by_making, Link, learns, passes, alters, Walk, here, on, Objects, Chain}
use Rattle.machine.specs.Separation.{Alike, AlikeOutside}
use Rattle.machine.specs.Recipe.{Recipe, always, if_read_empty, series_of}

-- ── The lines ──

-- the seat k is started and brought into a live domain, by a run with a wish for each passage
unfoldable pub drive : {P : Policy} {d : ℕ} → Live P d → ℕ → List (Entry Recipe)
drive live_first k = start k ∷ []
drive (live_pass {e = e} o L q) k = drive L k ++ (turn k (always (run o (Some e) 64)) ∷ [])

-- for each way to change an object: a call that leaves an empty object empty, and makes one that was told by present ..
abbrev pub quiet : Change → ℕ → Call
quiet by_writing o = write o []
quiet by_appending o = append o []
quiet by_making o = create o

-- .. and a call that tells, since a present object is not empty after it
abbrev pub telling : Change → ℕ → Call
telling by_writing o = write o (1 ∷ [])
telling by_appending o = append o (1 ∷ [])
telling by_making o = remove o

-- the lines so far, and who bears the leak: the second seat, or the first
pub record Carried : Type 0 where
  pub lines : List (Entry Recipe)
  pub second : Bool

abbrev pub seat_of : Bool → ℕ
seat_of false = 0
seat_of true = 1

-- the bearer tells by the object o
abbrev pub tell : Carried → Change → ℕ → Entry Recipe
tell c how o = turn (seat_of c.second) (if_read_empty (quiet how o) (telling how o))

-- the other seat comes into the next domain, and reads what the bearer tells
abbrev pub hand_over : {P : Policy} {d : ℕ} → Live P d → Carried → Change → ℕ → List (Entry Recipe)
hand_over L c how o =
    drive L (seat_of (not c.second)) ++
    (tell c how o ∷ turn (seat_of (not c.second)) (always (read o 64)) ∷ turn (seat_of c.second) (always (quiet how o)) ∷ [])

-- what the leak has come to at a node: at a domain, who bears it; at an object, who bears it and how the bearer's domain
-- may change the object, or nothing where the object is the chain's first
abbrev pub Reached : Node → Type 0
Reached (obj o) = Option (Carried × Change)
Reached (dom d) = Carried

-- one link further
abbrev pub forward : {P : Policy} {a b : Node} → Link P a b → Reached a → Reached b
forward (learns {o = o} L lt q) None = record { lines = drive L 0 ++ (turn 0 (always (read o 64)) ∷ []); second = false }
forward (learns {o = o} L lt q) (Some r) =
    record { lines = r.0.lines ++ hand_over L r.0 r.1 o; second = not r.0.second }
forward (passes {e = e} o L q) c =
    record { lines = c.lines ++ (turn (seat_of c.second) (always (run o (Some e) 64)) ∷ []); second = c.second }
forward (alters how L lt q) c = Some (c, how)

unfoldable pub carried : {P : Policy} {o n : ℕ} {b : Node} → Walk P (obj o) n b → Reached b
carried here = None
carried (on w k) = forward k (carried w)

-- at the last object it is enough to tell; a chain of no links leaks without a line
abbrev pub finished : ℕ → Option (Carried × Change) → List (Entry Recipe)
finished o None = []
finished o (Some r) = r.0.lines ++ (tell r.0 r.1 o ∷ [])

-- ── The leak of a chain ──

abbrev pub first_beginning : Contents
first_beginning o = Some []

abbrev pub second_beginning : ℕ → Contents
second_beginning from o = Some (cond (o == from) (1 ∷ []) [])

abbrev pub leak_beginnings : {P : Policy} {From To : Objects} {n : ℕ} → Chain P From To n → Contents × Contents
leak_beginnings c = (first_beginning, second_beginning c.from)

abbrev pub leak_lines : {P : Policy} {From To : Objects} {n : ℕ} → Chain P From To n → List (Entry Recipe)
leak_lines c = finished c.to (carried c.walk)

abbrev pub leak_series : {P : Policy} {From To : Objects} {n : ℕ} → Chain P From To n → Series
leak_series c = series_of (leak_lines c)

-- ── What is shown of it ──

-- a call that any host can make: bytes, an object of the policy, a wish for a domain of it or none, and a buffer of 64 bytes
pub record PlainCall (P : Policy) (c : Call) : Type 0 where
  pub hands_bytes : PossibleCall c
  pub names_object : object c < P.objects
  pub wishes_domain : wish_is_domain P (wish c) ≡ true
  pub has_room : room c ≡ 64

abbrev pub PlainRecipe : Policy → Recipe → Type 0
PlainRecipe P (always c) = PlainCall P c
PlainRecipe P (if_read_empty c e) = PlainCall P c × PlainCall P e

-- of seat 0 or seat 1
abbrev pub PlainLine : Policy → Entry Recipe → Type 0
PlainLine P (start s) = s < 2
PlainLine P (turn s recipe) = (s < 2) × PlainRecipe P recipe

-- permitted: no refusal, but that an object is absent
abbrev pub Permitted : Answer → Type 0
Permitted taken = Unit {0}
Permitted (held bytes) = Unit {0}
Permitted (ran bytes d) = Unit {0}
Permitted (refused r) = r ≡ absent

pub record Leaks (P : Policy) (From To : Objects) (n : ℕ) (c : Chain P From To n) : Type 0 where
  pub possible_first : Possible P (leak_beginnings c).0
  pub possible_second : Possible P (leak_beginnings c).1
  pub alike_outside : AlikeOutside P From (leak_beginnings c).0 (leak_beginnings c).1
  pub plain_lines : AllByRecursion (PlainLine P) (leak_lines c)
  pub possible_series : PossibleSeries (leak_series c)
  pub permitted_first : AllByRecursion Permitted (told P (loaded (leak_beginnings c).0) (leak_series c))
  pub permitted_second : AllByRecursion Permitted (told P (loaded (leak_beginnings c).1) (leak_series c))
  -- at the chain's last object, which is one of To
  pub unlike :
      Alike (after P (loaded (leak_beginnings c).0) (leak_series c)).contents (after P (loaded (leak_beginnings c).1) (leak_series c)).contents
      c.to → ⊥

abbrev pub EveryChainLeaks : Type 0
EveryChainLeaks = (P : Policy) (From To : Objects) (n : ℕ) (c : Chain P From To n) → Leaks P From To n c
