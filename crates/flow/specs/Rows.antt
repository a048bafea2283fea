-- Tables of which nodes are linked.
use Rattle.std.specs.Prelude.{ℕ, Bool, false, List, [], slice_index_or}
use Rattle.flow.specs.declared.chart.Links.{Links}

abbrev pub leads : List Bool → ℕ → Bool
leads row v = slice_index_or row v false

abbrev pub row_at : Links → ℕ → List Bool
row_at t u = slice_index_or t.0 u []

abbrev pub linked : Links → ℕ → ℕ → Bool
linked t u v = leads (row_at t u) v
