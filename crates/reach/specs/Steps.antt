-- A table of the last steps to nodes: none where no walk leads.
use Rattle.std.specs.Prelude.{ℕ, List, Some, None, Option, option_map, slice_index_or}
use Rattle.reach.specs.declared.table.Step.{Step}

-- the last step to a node; a number that is no node has none
abbrev pub step_at : List (Option Step) → ℕ → Option Step
step_at steps v = slice_index_or steps v None

-- how far the step leads
abbrev pub dist_of : Option Step → Option ℕ
dist_of step = option_map (λ (s : Step). s.dist) step

-- the node from which the step leads
abbrev pub from_of : Option Step → ℕ
from_of None = 0
from_of (Some s) = s.parent
