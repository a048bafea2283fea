-- The nodes that numbers stand for.
use Rattle.std.specs.Prelude.{◌≡◌, ℕ, ◌<◌}
use Rattle.machine.specs.Flow.{Node, obj, dom, number}
use Rattle.flow.specs.declared.node.Node.{Node as Declared}
use Rattle.flow.specs.declared.node.Node.TheVariants.{Object, Domain}

-- a node whose number stands for no other: objects are below 128, and domains below 32
abbrev pub Numbered : Node → Type 0
Numbered (obj o) = o < 128
Numbered (dom d) = d < 32

-- the node in the machine's words
abbrev pub meant : Declared → Node
meant (Object o) = obj o.0
meant (Domain d) = dom d.0

-- the number v stands for the node
abbrev pub StandsFor : ℕ → Declared → Type 0
StandsFor v node = (number (meant node) ≡ v) × (v < 160 → Numbered (meant node))
