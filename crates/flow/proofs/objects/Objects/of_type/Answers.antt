use Rattle.std.proofs.Common.{◌≡◌, false, sym, ◌∙◌, ⊎_elim, arith, rules}
use Rattle.std.proofs.lemmas.List.{get_or_past}
use Rattle.std.proofs.lemmas.Bool.{cases_lt, and_left, le-ltb}
use Rattle.machine.specs.Flow.{of_type}
use Rattle.policy.specs.Abstract.{asked}
use Rattle.flow.specs.Sets.{within}
use Rattle.flow.proofs.Bounded.{objects_few}
use Rattle.flow.proofs.Filling.{filled}
use Rattle.flow.proofs.objects.Objects.of_type.Goals as goal

pub returns : goal.returns
returns c o =
    let P = asked c.args.policy.now.policy in
    ⊎_elim
    (filled _ _ (λ i r. r ≡ within P (of_type P c.args.typ.0) i) (λ i r f e. search rules) _ _ c.from_fn.ensures.items o false)
    (λ h.
    get_or_past c.from_fn.result o false (omega (arith, h, c.from_fn.ensures.items.long))
    ∙ sym (and_left _ _ (le-ltb o _ (omega (arith, h, objects_few c.args.policy.now.policy)))))
    (cases_lt o 128)
