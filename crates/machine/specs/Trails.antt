-- Laws of the nodes of a walk and of their numbers.
use Rattle.std.specs.Prelude.{◌≡◌, ℕ, suc, ◌<◌, List, [], ◌∷◌, length, slice_index_or}
use Rattle.machine.specs.Policy.{Policy}
use Rattle.machine.specs.Flow.{Node, obj, dom, number, Link, Walk, trail}

-- objects are numbered below 128
abbrev pub NumberedApart : Node → Type 0
NumberedApart (obj o) = o < 128
NumberedApart (dom d) = Unit {0}

abbrev pub NumbersTellNodesApart : Type 0
NumbersTellNodesApart = (x y : Node) → NumberedApart x → NumberedApart y → number x ≡ number y → x ≡ y

-- each node is linked to the next
abbrev pub Linked : Policy → List Node → Type 0
Linked P [] = Unit {0}
Linked P (x ∷ []) = Unit {0}
Linked P (x ∷ y ∷ nodes) = Link P x y × Linked P (y ∷ nodes)

-- the nodes lead from a to b in n links
pub record Way (P : Policy) (a b : Node) (n : ℕ) (nodes : List Node) : Type 0 where
  pub one_more : length nodes ≡ suc n
  pub begins : slice_index_or nodes 0 b ≡ a
  pub ends : slice_index_or nodes n a ≡ b
  pub linked : Linked P nodes

abbrev pub TrailsLeadTheWay : Type 0
TrailsLeadTheWay = (P : Policy) (a b : Node) (n : ℕ) (w : Walk P a n b) → Way P a b n (trail w)
