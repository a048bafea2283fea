use Rattle.std.proofs.Common.{◌≡◌, ℕ, ◌-◌, ◌<◌, eqb}
use Rattle.reach.specs.Queue.{far_of, Queue}
use Rattle.reach.specs.Walks.{among}
use Rattle.reach.proofs.search.explore.Given as goal

abbrev pub invariant-loop-place : goal.invariant-loop-place
invariant-loop-place g l =
    Queue (g.G.Graph.edge l.graph) l.place 0 l.search × ((v : ℕ) → v < 160 → eqb (far_of l.search v) 0 ≡ among l.from v)

abbrev pub decreases-loop-place : goal.decreases-loop-place
decreases-loop-place g l = 160 - l.place
