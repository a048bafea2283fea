-- What the result of a search says of a node.
use Rattle.std.specs.Prelude.{ℕ, Option}
use Rattle.reach.specs.declared.table.Reach.{Reach}
use Rattle.reach.specs.Steps.{step_at, dist_of, from_of}

-- how far a node is from the nearest source; a number that is no node has no distance
unfoldable pub distance_of : Reach → ℕ → Option ℕ
distance_of r v = dist_of (step_at r.steps v)

-- the node before, on a shortest walk to a node that is no source
unfoldable pub parent_of : Reach → ℕ → ℕ
parent_of r v = from_of (step_at r.steps v)
