-- The steps back to a source, in a table of last steps.
use Rattle.std.specs.Prelude.{◌≡◌, ℕ, suc, ◌<◌, List, Some, Option}
use Rattle.reach.specs.declared.table.Step.{Step}
use Rattle.reach.specs.Steps.{step_at, dist_of, from_of}

-- only nodes have a distance, and it is below the number of nodes
abbrev pub Short : List (Option Step) → Type 0
Short steps = (v n : ℕ) → dist_of (step_at steps v) ≡ Some n → (v < 160) × (n < 160)

-- a step back from a node that is no source leads to a node that is one nearer
abbrev pub Rooted : List (Option Step) → Type 0
Rooted steps =
    (v n : ℕ) → dist_of (step_at steps v) ≡ Some (suc n) →
    (from_of (step_at steps v) < 160) × (dist_of (step_at steps (from_of (step_at steps v))) ≡ Some n)
