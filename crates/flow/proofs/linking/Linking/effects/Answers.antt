use Rattle.std.proofs.Common.{◌≡◌, true, false, ◌↔◌, refl, rules}
use Rattle.machine.specs.Flow.{Node, dom, number}
use Rattle.flow.specs.Grounds.{Linked}
use Rattle.flow.specs.Nodes.{Numbered}
use Rattle.flow.proofs.Filling.{filled}
use Rattle.flow.proofs.Nodes.{number_below}
use Rattle.flow.proofs.linking.Linking.effects.Goals as goal

pub returns : goal.returns
returns c y hy =
    filled _ _ (λ v r. (z : Node) → Numbered z → number z ≡ v → (r ≡ true) ↔ Linked c.args.self.now (dom c.args.dom.0) z) (λ v r f e. (search rules, λ z h k. search rules)) _ _ c.from_fn.ensures.items (number y) false (number_below y hy) y hy refl
