-- The nodes of a shortest walk, written into a buffer.
use Rattle.std.specs.Prelude.{ℕ, zero, suc, if◌then◌else◌, List, [], ◌∷◌, ◌++◌, drop, Some, None, Option, nat_le}
use Rattle.reach.specs.declared.table.Reach.{Reach}
use Rattle.reach.specs.Distances.{distance_of, parent_of}

-- the last n + 1 nodes on the way to v, each the parent of the next
unfoldable pub trail : (ℕ → ℕ) → ℕ → ℕ → List ℕ
trail parent zero v = v ∷ []
trail parent (suc n) v = trail parent n (parent v) ++ v ∷ []

-- how many edges are traced to a node, where the buffer has room for so many nodes: none, unless for all 160
abbrev pub traced : Reach → ℕ → ℕ → Option ℕ
traced reach to room = if nat_le 160 room then distance_of reach to else None

-- what the buffer then holds
abbrev pub written : Reach → ℕ → List ℕ → Option ℕ → List ℕ
written reach to nodes None = nodes
written reach to nodes (Some n) = trail (parent_of reach) n to ++ drop (suc n) nodes
