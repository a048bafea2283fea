-- Where an exploration begins.
use Rattle.std.specs.Prelude.{◌≡◌, ℕ, ◌<◌, ◌≤◌, Bool, false, ◌&&◌, List, nat_lt, slice_index_or}
use Rattle.machine.specs.Flow.{Objects as Set}

-- the nodes that are marked are the objects of the set, of so many objects
pub record Sources (objects : ℕ) (From : Set) (marks : List Bool) : Type 0 where
  pub of_objects : (o : ℕ) → o < 128 → slice_index_or marks o false ≡ (nat_lt o objects && From o)
  pub no_others : (v : ℕ) → 128 ≤ v → slice_index_or marks v false ≡ false
