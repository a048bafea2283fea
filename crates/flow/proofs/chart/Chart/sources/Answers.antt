use Rattle.std.proofs.Common.{◌≡◌, false, ◌&&◌, ltb, ◌∙◌, ⊎_elim, arith, rules}
use Rattle.std.proofs.lemmas.List.{get_or_past}
use Rattle.std.proofs.lemmas.Bool.{cases_lt, and_right}
use Rattle.flow.specs.Sets.{among}
use Rattle.flow.proofs.Filling.{filled}
use Rattle.flow.proofs.chart.Chart.sources.Goals as goal

pub returns : goal.returns
returns c =
    let at = filled _ _ (λ i r. r ≡ (ltb i c.args.self.now.objects && among c.args.from.now i)) (λ i r f e. search rules) _ _ c.from_fn.ensures.items in
    record {
      of_objects = λ o l. at o false (omega arith);
      no_others = λ v l.
          ⊎_elim
          (λ h. at v false h ∙ and_right _ _ (get_or_past c.args.from.now.members v false (omega arith)))
          (λ h. get_or_past c.from_fn.result v false (omega (arith, h, c.from_fn.ensures.items.long)))
          (cases_lt v 160);
    }
