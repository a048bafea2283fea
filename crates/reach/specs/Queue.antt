-- What holds of a search under way, along edges of E. A node is found where there is a step to it.
use Rattle.std.specs.Prelude.{◌≡◌, ℕ, ◌+◌, ◌<◌, ◌≤◌, Bool, true, if◌then◌else◌, ◌⊎◌, List, length, count_by, Some, None, Option, is_some, is_none, ◌==◌, slice_index, slice_set}
use Rattle.reach.specs.declared.search.Search.{Search}
use Rattle.reach.specs.declared.table.Step.{Step}
use Rattle.reach.specs.Steps.{step_at, from_of}

-- how far a step leads; no step counts as one that is farther than all nodes
abbrev pub far : Option Step → ℕ
far None = 255
far (Some s) = s.dist

-- the distance of a node
abbrev pub far_of : Search → ℕ → ℕ
far_of s v = far (step_at s.steps v)

-- the node at a place of the queue
abbrev pub node_at : Search → ℕ → ℕ
node_at s i = slice_index s.queue i

-- how many nodes are not found
unfoldable pub missing : List (Option Step) → ℕ
missing steps = count_by is_none steps

-- the node v is found, by a step
abbrev pub finding : Search → ℕ → Step → Search
finding s v step =
    record { steps = slice_set s.steps v (Some step); queue = slice_set s.queue s.count v; count = s.count + 1 }

-- the table has a place for each node, and the queue has one for each node that is not found
pub record Room (s : Search) : Type 0 where
  pub steps : length s.steps ≡ 160
  pub queue : length s.queue ≡ 160
  pub count : s.count + missing s.steps ≡ 160

-- Of the nodes below n, those in S are found; no other node is.
pub record Started (S : ℕ → Bool) (n : ℕ) (s : Search) : Type 0 where
  pub room : Room s
  pub below : (v : ℕ) → v < n → step_at s.steps v ≡ (if S v then Some (record { dist = 0; parent = v }) else None)
  pub above : (v : ℕ) → n ≤ v → step_at s.steps v ≡ None
  pub first : (i : ℕ) → i < s.count → (node_at s i < n) × (far_of s (node_at s i) ≡ 0)
  pub queued : (v : ℕ) → v < n → S v ≡ true → (i : ℕ) × (i < s.count) × (node_at s i ≡ v)

-- the nodes that are looked at: all from the nodes in the queue before place h, and those below w from the node at place h
abbrev pub Looked : ℕ → ℕ → ℕ → ℕ → Type 0
Looked h w i v = (i < h) ⊎ ((i ≡ h) × (v < w))

-- u is a node at the distance k, with an edge to v
pub record Parent (E : ℕ → ℕ → Bool) (s : Search) (v k u : ℕ) : Type 0 where
  pub node : u < 160
  pub far : far_of s u ≡ k
  pub edge : E u v ≡ true

-- The nodes in the queue before place h were expanded, and the node at place h as far as the node w.
pub record Queue (E : ℕ → ℕ → Bool) (h w : ℕ) (s : Search) : Type 0 where
  pub room : Room s
  -- what stands in the queue are nodes, and each node that is found stands there
  pub node : (i : ℕ) → i < s.count → node_at s i < 160
  pub queued : (v : ℕ) → is_some (step_at s.steps v) ≡ true → (i : ℕ) × (i < s.count) × (node_at s i ≡ v)
  -- the queue goes by distance, and no node is more than one edge beyond one that waits
  pub sorted : (i j : ℕ) → i ≤ j → j < s.count → far_of s (node_at s i) ≤ far_of s (node_at s j)
  pub low : (i j : ℕ) → h ≤ i → i < s.count → j < s.count → far_of s (node_at s j) ≤ far_of s (node_at s i) + 1
  pub short : (i : ℕ) → i < s.count → far_of s (node_at s i) ≤ i
  -- a node that is no source is one edge beyond its parent
  pub back : (v k : ℕ) → far_of s v ≡ k + 1 → k + 1 < 255 → Parent E s v k (from_of (step_at s.steps v))
  -- a node that was looked at is at most one edge beyond the node from which it was
  pub closed : (i v : ℕ) → i < s.count → v < 160 → Looked h w i v → E (node_at s i) v ≡ true → far_of s v ≤ far_of s (node_at s i) + 1

-- the same nodes are sources: they are at the distance 0
abbrev pub SameSources : Search → Search → Type 0
SameSources s t = (v : ℕ) → v < 160 → (far_of t v == 0) ≡ (far_of s v == 0)
