-- A node and its number.
use Rattle.std.proofs.Common.{◌≡◌, ℕ, ◌-◌, ◌<◌, refl, ap, ⊎_elim, arith}
use Rattle.std.proofs.lemmas.Bool.{cases_lt}
use Rattle.machine.specs.Flow.{Node, obj, dom, number}
use Rattle.flow.specs.declared.node.Node.{Node as Declared}
use Rattle.flow.specs.Nodes.{Numbered, meant, StandsFor}

pub number_below : (x : Node) → Numbered x → number x < 160
number_below (obj o) h = omega arith
number_below (dom d) h = omega arith

same_node : (x y : Node) → Numbered x → Numbered y → number x ≡ number y → x ≡ y
same_node (obj o) (obj i) h k e = ap obj e
same_node (obj o) (dom d) h k e = absurd (omega arith)
same_node (dom d) (obj o) h k e = absurd (omega arith)
same_node (dom d) (dom i) h k e = ap dom (omega arith)

-- the node that a number stands for
pub record NodeOf (v : ℕ) : Type 0 where
  pub node : Node
  pub numbered : Numbered node
  pub number_is : number node ≡ v

pub node_of : (v : ℕ) → v < 160 → NodeOf v
node_of v l =
    ⊎_elim
    (λ h. record { node = obj v; numbered = h; number_is = refl })
    (λ h. record { node = dom (v - 128); numbered = omega arith; number_is = omega arith })
    (cases_lt v 128)

pub stands_for : (node : Declared) (x : Node) → Numbered x → StandsFor (number x) node → Numbered (meant node) × (meant node ≡ x)
stands_for node x h s =
    let k = s.1 (number_below x h) in
    (k, same_node (meant node) x k h s.0)
