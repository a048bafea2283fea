-- Relations between nodes, as tables over their numbers.
use Rattle.std.specs.Prelude.{◌≡◌, ℕ, ◌+◌, ◌<◌, Bool, true, false, ◌↔◌, List, slice_index_or}
use Rattle.machine.specs.Flow.{Node, number}
use Rattle.flow.specs.declared.chart.Links.{Links}
use Rattle.flow.specs.Nodes.{Numbered}
use Rattle.flow.specs.Rows.{leads, linked}

-- a row leads to exactly the nodes of which R holds
abbrev pub RowOf : (Node → Type 0) → List Bool → Type 0
RowOf R row = (y : Node) → Numbered y → (leads row (number y) ≡ true) ↔ R y

-- the table links two nodes exactly if R does
abbrev pub TableOf : (Node → Node → Type 0) → Links → Type 0
TableOf R t = (x y : Node) → Numbered x → Numbered y → (linked t (number x) (number y) ≡ true) ↔ R x y

-- the row leads to the marked domains, and to no object
pub record LeadsTo (marks : List Bool) (row : List Bool) : Type 0 where
  pub domains : (d : ℕ) → d < 32 → leads row (128 + d) ≡ slice_index_or marks d false
  pub objects : (o : ℕ) → o < 128 → leads row o ≡ false
