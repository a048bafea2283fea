-- Walks in a graph over the nodes, which are the numbers below 160, and what a search finds of them.
use Rattle.std.specs.Prelude.{◌≡◌, ℕ, zero, suc, ◌<◌, ◌≤◌, Bool, true, false, List, Some, None, Option, slice_index_or, refl}

-- the set that a list of marks stands for
abbrev pub among : List Bool → ℕ → Bool
among marks v = slice_index_or marks v false

-- a walk of so many edges, from a node in S along edges of E to a node
pub data Walk (S : ℕ → Bool) (E : ℕ → ℕ → Bool) : ℕ → ℕ → Type 0 where
  here : {b : ℕ} → b < 160 → S b ≡ true → Walk S E zero b
  on : {n b c : ℕ} → Walk S E n b → c < 160 → E b c ≡ true → Walk S E (suc n) c

-- What a search from the nodes in S along edges of E finds: how far each node is, and which node comes before it.
pub record Found (S : ℕ → Bool) (E : ℕ → ℕ → Bool) (distance : ℕ → Option ℕ) (parent : ℕ → ℕ) : Type 0 where
  -- a distance is the length of a walk
  pub walk : (v n : ℕ) → distance v ≡ Some n → Walk S E n v
  -- no walk is shorter
  pub least : (v n m : ℕ) → distance v ≡ Some n → Walk S E m v → n ≤ m
  -- to a node without a distance no walk leads
  pub unreached : (v m : ℕ) → distance v ≡ None → Walk S E m v → ⊥
  -- a shortest walk passes no node twice
  pub short : (v n : ℕ) → distance v ≡ Some n → n < 160
  -- from the node before, which is one edge nearer, an edge leads to the node
  pub near : (v n : ℕ) → distance v ≡ Some (suc n) → distance (parent v) ≡ Some n
  pub edge : (v n : ℕ) → distance v ≡ Some (suc n) → E (parent v) v ≡ true

-- a walk ends at a node
pub walk_to_node : {S : ℕ → Bool} {E : ℕ → ℕ → Bool} {n v : ℕ} → Walk S E n v → v < 160
walk_to_node (here h s) = h
walk_to_node (on w h e) = h

-- a walk without edges ends where it begins
pub walk_of_none : {S : ℕ → Bool} {E : ℕ → ℕ → Bool} {v : ℕ} → Walk S E zero v → S v ≡ true
walk_of_none (here h s) = s

-- a node that a walk leads to has a distance
pub walk_is_found : {S : ℕ → Bool} {E : ℕ → ℕ → Bool} {distance : ℕ → Option ℕ} {parent : ℕ → ℕ} {m v : ℕ} →
    Found S E distance parent → Walk S E m v → (n : ℕ) × (distance v ≡ Some n)
walk_is_found {distance = distance} {m = m} {v = v} f w = told (distance v) refl
  where
    told : (o : Option ℕ) → distance v ≡ o → (n : ℕ) × (distance v ≡ Some n)
    told (Some n) e = (n, e)
    told None e = absurd (f.unreached v m e w)
