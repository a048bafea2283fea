-- What one exploration from a set of objects holds: a shortest chain to each object that a chain leads to.
use Rattle.std.specs.Prelude.{◌≡◌, ℕ, ◌<◌, ◌≤◌, map, Some, None, Option, ◌==◌}
use Rattle.machine.specs.Flow.{number, trail, NoChain, Shortest, Objects as Set}
use Rattle.machine.specs.Policy.{Policy as Asked}
use Rattle.reach.specs.Distances.{distance_of, parent_of}
use Rattle.reach.specs.Trails.{trail as nodes_to}
use Rattle.flow.specs.declared.spread.Spread.{Spread}

-- the set of one object
abbrev pub only : ℕ → Set
only o i = i == o

-- a shortest chain to the object, over the nodes that the spread leads back by
pub record Held (P : Asked) (From : Set) (spread : Spread) (o n : ℕ) : Type 0 where
  pub shortest : Shortest P From (only o) n
  pub nodes : map number (trail shortest.chain.walk) ≡ nodes_to (parent_of spread.reach) n o

-- by the distance of the object, if it has one
abbrev pub HeldAt : Asked → Set → Spread → ℕ → Option ℕ → Type 0
HeldAt P From spread o None = NoChain P From (only o)
HeldAt P From spread o (Some n) = Held P From spread o n

pub record SpreadOf (P : Asked) (From : Set) (spread : Spread) : Type 0 where
  pub objects_few : P.objects ≤ 128
  pub chains : (o : ℕ) → o < 128 → HeldAt P From spread o (distance_of spread.reach o)
